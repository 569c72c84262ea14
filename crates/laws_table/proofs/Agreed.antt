-- What two readings of names agree on, where they agree on the names that stand there.
use Rattle.std.proofs.Common.{◌≡◌, ◌∙◌, ℕ, ◌<◌, List, [], ◌∷◌, ◌++◌, map, length, Option, Some, None, refl, sym, ap, ap₂}
use Rattle.std.specs.List.{flat_map, All, AllByRecursion}
use Rattle.std.proofs.lemmas.List.{get_or_append_left}
use Rattle.std.proofs.lemmas.List.Elements.{All-weaker, recursion_from_All}
use Rattle.std.proofs.lemmas.Option.{unwrap_or-slice_get}
use Rattle.dart_ir.specs.Ty.{TyOf, TysOf, NamedTysOf, dynamic, bottom, void, class as class_ty, parameter as parameter_ty, function as function_ty, nil, cons, unnamed, named}
use Rattle.core_names.specs.Names.{ty_names, tys_names, named_tys_names, ty_option_names, class_names, member_names}
use Rattle.core_program.specs.Named as n
use Rattle.core_program.specs.Program as p
use Rattle.core_program.specs.ProgramView.{text_at}
use Rattle.translation.specs.Surroundings.{Text}

-- ---- two readings

module _ {N M : Type 0} (f g : N → M) where
  abbrev pub Agree : List N → Type 0
  Agree = AllByRecursion (λ x. f x ≡ g x)

  pub halves : (xs ys : List N) → Agree (xs ++ ys) → Agree xs × Agree ys
  halves [] ys h = (tt, h)
  halves (x ∷ xs) ys h = let r = halves xs ys h.1 in ((h.0, r.0), r.1)

  pub all_agreed : {A B : Type 0} (names : A → List N) (one other : A → B) → ((x : A) → Agree (names x) → one x ≡ other x)
      → (xs : List A) → Agree (flat_map names xs) → map one xs ≡ map other xs
  all_agreed names one other each [] h = refl
  all_agreed names one other each (x ∷ xs) h =
      let r = halves (names x) (flat_map names xs) h in ap₂ (λ y ys. y ∷ ys) (each x r.0) (all_agreed names one other each xs r.1)

  mutual
    pub ty_agreed : (t : TyOf N) → Agree (ty_names t) → n.ty f t ≡ n.ty g t
    ty_agreed dynamic h = refl
    ty_agreed bottom h = refl
    ty_agreed void h = refl
    ty_agreed (class_ty k ts) h = ap (class_ty k) (tys_agreed ts h)
    ty_agreed (parameter_ty i) h = refl
    ty_agreed (function_ty result required optional parameters) h =
        let r = halves (ty_names result ++ tys_names required ++ tys_names optional) (named_tys_names parameters) h in
        let s = halves (ty_names result ++ tys_names required) (tys_names optional) r.0 in
        let u = halves (ty_names result) (tys_names required) s.0 in
        λ i. function_ty (ty_agreed result u.0 i) (tys_agreed required u.1 i) (tys_agreed optional s.1 i) (named_tys_agreed parameters r.1 i)

    tys_agreed : (ts : TysOf N) → Agree (tys_names ts) → n.tys f ts ≡ n.tys g ts
    tys_agreed nil h = refl
    tys_agreed (cons t ts) h = let r = halves (ty_names t) (tys_names ts) h in λ i. cons (ty_agreed t r.0 i) (tys_agreed ts r.1 i)

    named_tys_agreed : (ts : NamedTysOf N) → Agree (named_tys_names ts) → n.named_tys f ts ≡ n.named_tys g ts
    named_tys_agreed unnamed h = refl
    named_tys_agreed (named x t ts) h =
        let r = halves (ty_names t) (named_tys_names ts) h.1 in λ i. named (h.0 i) (ty_agreed t r.0 i) (named_tys_agreed ts r.1 i)

  ty_option_agreed : (o : Option (TyOf N)) → Agree (ty_option_names o) → n.ty_option f o ≡ n.ty_option g o
  ty_option_agreed None h = refl
  ty_option_agreed (Some t) h = ap Some (ty_agreed t h)

  -- a row of a table of classes, and a member
  pub class_agreed : (x : p.Class N) → Agree (class_names x) → n.class f x ≡ n.class g x
  class_agreed x h =
      let bounds = flat_map ty_option_names x.bounds in
      let r = halves (bounds ++ ty_option_names x.superclass) (flat_map ty_names x.interfaces) h.1 in
      let s = halves bounds (ty_option_names x.superclass) r.0 in
      λ i. record (n.class f x) {
        name = h.0 i;
        bounds = all_agreed ty_option_names (n.ty_option f) (n.ty_option g) ty_option_agreed x.bounds s.0 i;
        superclass = ty_option_agreed x.superclass s.1 i;
        interfaces = all_agreed ty_names (n.ty f) (n.ty g) ty_agreed x.interfaces r.1 i;
      }

  pub member_agreed : (x : p.Member N) → Agree (member_names x) → n.member f x ≡ n.member g x
  member_agreed x h = λ i. record (n.member f x) { name = h.0 i; signature = ty_agreed x.signature h.1 i }

-- ---- a table of names, and one that begins with it

module _ (texts more : List Text) where
  pub text_kept : (x : ℕ) → x < length texts → text_at texts x ≡ text_at (texts ++ more) x
  text_kept x less =
      unwrap_or-slice_get texts x [] ∙ sym (get_or_append_left texts more [] x less) ∙ sym (unwrap_or-slice_get (texts ++ more) x [])

  -- they agree on names of the first
  pub agree_within : (names : List ℕ) → All (λ x. x < length texts) names → Agree (text_at texts) (text_at (texts ++ more)) names
  agree_within names within =
      recursion_from_All (λ x. text_at texts x ≡ text_at (texts ++ more) x) names
      (All-weaker (λ x. x < length texts) (λ x. text_at texts x ≡ text_at (texts ++ more) x) text_kept names within)
