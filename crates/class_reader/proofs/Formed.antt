-- Types that are formed with names as texts are formed with names as numbers.
use Rattle.std.proofs.Common.{◌≡◌, ℕ, ◌<◌, length, refl, ◌∙◌, arith}
use Rattle.dart_ir.specs.Ty.{Ty, Tys, NamedTys, dynamic, bottom, void, class, parameter, function, nil, cons, unnamed, named}
use Rattle.dart_ir.specs.Classes as plain
use Rattle.core_program.specs.Named as with_names
use Rattle.translation.specs.Surroundings.{Text, Tables}
use Rattle.class_fault.specs.declared.program.Program.{Program}
use Rattle.class_fault.specs.Program.{declaration_at}
use Rattle.class_table.specs.Program.{parameters_in, IsFormedIn, AreFormedIn, AreNamedFormedIn, IsHeaderTy}
use Rattle.class_source.specs.Formed.{count, IsFormed, AreFormed, AreNamedFormed, IsPlain, ArePlain}

-- each class of the program has as many type parameters as the table says
abbrev pub AreCounted : Tables → Program → Type 0
AreCounted tables p = (c : ℕ) → c < length p.declarations.items → tables.parameters c ≡ parameters_in (declaration_at p c)

count_same : (f : ℕ → Text) (ts : Tys) → plain.count ts ≡ count (with_names.tys f ts)
count_same f nil = refl
count_same f (cons t ts) = let more = count_same f ts in omega arith

mutual
  pub type_formed : (f : ℕ → Text) (tables : Tables) (p : Program) → AreCounted tables p → (n : ℕ) (t : Ty) →
      IsFormed tables (length p.declarations.items) n (with_names.ty f t) → IsFormedIn p n t
  type_formed f tables p counted n dynamic formed = tt
  type_formed f tables p counted n bottom formed = tt
  type_formed f tables p counted n void formed = tt
  type_formed f tables p counted n (class c ts) formed =
      (formed.0, count_same f ts ∙ formed.1 ∙ counted c formed.0, types_formed f tables p counted n ts formed.2)
  type_formed f tables p counted n (parameter i) formed = formed
  type_formed f tables p counted n (function result required optional names) formed = (
    type_formed f tables p counted n result formed.0,
    types_formed f tables p counted n required formed.1,
    types_formed f tables p counted n optional formed.2,
    names_formed f tables p counted n names formed.3,
  )

  pub types_formed : (f : ℕ → Text) (tables : Tables) (p : Program) → AreCounted tables p → (n : ℕ) (ts : Tys) →
      AreFormed tables (length p.declarations.items) n (with_names.tys f ts) → AreFormedIn p n ts
  types_formed f tables p counted n nil formed = tt
  types_formed f tables p counted n (cons t ts) formed =
      (type_formed f tables p counted n t formed.0, types_formed f tables p counted n ts formed.1)

  pub names_formed : (f : ℕ → Text) (tables : Tables) (p : Program) → AreCounted tables p → (n : ℕ) (ts : NamedTys) →
      AreNamedFormed tables (length p.declarations.items) n (with_names.named_tys f ts) → AreNamedFormedIn p n ts
  names_formed f tables p counted n unnamed formed = tt
  names_formed f tables p counted n (named name t ts) formed =
      (type_formed f tables p counted n t formed.0, names_formed f tables p counted n ts formed.1)

mutual
  pub type_plain : (f : ℕ → Text) (t : Ty) → IsPlain (with_names.ty f t) → plain.IsPlain t
  type_plain f dynamic is = tt
  type_plain f bottom is = tt
  type_plain f void is = tt
  type_plain f (class c ts) is = types_plain f ts is
  type_plain f (parameter i) is = tt
  type_plain f (function result required optional names) is = absurd is

  pub types_plain : (f : ℕ → Text) (ts : Tys) → ArePlain (with_names.tys f ts) → plain.ArePlain ts
  types_plain f nil is = tt
  types_plain f (cons t ts) is = (type_plain f t is.0, types_plain f ts is.1)

-- what a header names
pub header_formed : (f : ℕ → Text) (tables : Tables) (p : Program) → AreCounted tables p → (n : ℕ) (t : Ty) →
    IsFormed tables (length p.declarations.items) n (with_names.ty f t) → IsPlain (with_names.ty f t) → IsHeaderTy p n t
header_formed f tables p counted n dynamic formed is = tt
header_formed f tables p counted n bottom formed is = tt
header_formed f tables p counted n void formed is = tt
header_formed f tables p counted n (class c ts) formed is = (type_formed f tables p counted n (class c ts) formed, types_plain f ts is)
header_formed f tables p counted n (parameter i) formed is = tt
header_formed f tables p counted n (function result required optional names) formed is = tt
