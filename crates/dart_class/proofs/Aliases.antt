-- What aliases stand for is formed.
use Rattle.std.proofs.Common.{◌≡◌, ℕ, zero, suc, ◌+◌, ◌<◌, Bool, true, false, List, [], ◌∷◌, length, map, Option, Some, None, refl, sym, subst, arith, cond, if◌then◌else◌}
use Rattle.std.specs.Prelude.{slice_get, bytes_eq, unwrap_or, option_and_then}
use Rattle.std.specs.List.{list_any, position_from}
use Rattle.std.specs.Option.{option_map, option_or}
use Rattle.dart_ir.specs.Ty.{dynamic, bottom}
use Rattle.translation.specs.Surroundings.{Text, Ty, Names, Tables, Meaning}
use Rattle.translation.specs.Surroundings as m
use Rattle.translation.specs.Types.{tys, fitting}
use Rattle.class_source.specs.Source.{Given}
use Rattle.class_source.specs.Resolved.{AreScoped, IsScoped}
use Rattle.class_source.specs.Formed.{IsFormed, AreFormed}
use Rattle.class_source.proofs.Formed.{signature_formed}
use Rattle.lower_leaf.specs.Around.{Around}
use Rattle.lower_annotation.specs.Numbered.{Alias, library_outer}
use Rattle.lower_annotation.specs.Instance.{instance, has_bottom}
use Rattle.lower_annotation.specs.Written.{Entry, parameters_of, with_parameters, within_limit, put_in, alias_in, waiting_type, final_type, alias_read, settled, first_entry, dynamic_if, names_itself, unwound, next_entry, with_each, round, rounds, written_out}
use Rattle.dart_class.proofs.Formed.{formed-as, all-formed-as, instance-formed, fitting-formed, within-formed}

-- ---- names inside of an alias

position-below : (f : Text → Bool) (k : ℕ) (xs : List Text) (i : ℕ) → position_from f k xs ≡ Some i → i < k + length xs
position-below f k [] i h = absurd cc
position-below f k (x ∷ xs) i h = by (f x) h (position-below f (k + 1) xs i)
  where
    by : (b : Bool) → cond b (Some k) (position_from f (k + 1) xs) ≡ Some i → (position_from f (k + 1) xs ≡ Some i → i < k + 1 + length xs) → i < k + length (x ∷ xs)
    by true here later = let same : k ≡ i = cc in omega (arith, same)
    by false there later = let behind = later there in omega (arith, behind)

more-scoped : (classes n : ℕ) (x : Meaning) → IsScoped classes 0 x → IsScoped classes n x
more-scoped classes n (m.class c) h = h
more-scoped classes n (m.alias k) h = tt
more-scoped classes n (m.type_parameter i) h = omega (arith, h)
more-scoped classes n (m.function k) h = tt
more-scoped classes n (m.variable k b) h = tt
more-scoped classes n (m.accessors a b) h = tt
more-scoped classes n m.member h = tt
more-scoped classes n m.prefix h = tt
more-scoped classes n m.ambiguous h = tt
more-scoped classes n m.unknown h = tt

scoped-inside : (classes : ℕ) (names : Names) (parameters : List Text) → AreScoped classes 0 names → AreScoped classes (length parameters) (with_parameters parameters names)
scoped-inside classes names parameters h = record {
  alone = λ name. by name (position_from (bytes_eq name) 0 parameters) refl;
  prefixed = λ prefix name. more-scoped classes (length parameters) (names.prefixed prefix name) (h.prefixed prefix name);
}
  where
    by : (name : Text) (o : Option ℕ) → position_from (bytes_eq name) 0 parameters ≡ o
        → IsScoped classes (length parameters) (unwrap_or (option_map m.type_parameter o) (names.meaning name))
    by name None e = more-scoped classes (length parameters) (names.meaning name) (h.alone name)
    by name (Some i) e = let below = position-below (bytes_eq name) 0 parameters i e in omega (arith, below)

module _ (a : Around) (classes : ℕ) (scoped : (library : ℕ) → AreScoped classes 0 (a.names (library_outer library))) where
  -- a type that there is, if there is one
  abbrev IsMade : ℕ → Option Ty → Type 0
  IsMade n None = Unit {0}
  IsMade n (Some t) = IsFormed a.tables classes n t

  abbrev IsWritten : Entry → Type 0
  IsWritten e = IsMade e.parameters e.of

  abbrev AreWritten : List Entry → Type 0
  AreWritten [] = Unit {0}
  AreWritten (e ∷ es) = IsWritten e × AreWritten es

  abbrev IsFound : Option Entry → Type 0
  IsFound None = Unit {0}
  IsFound (Some e) = IsWritten e

  -- ---- an alias with type arguments

  module _ (n : ℕ) (given : List Ty) (formed : AreFormed a.tables classes n (tys given)) where
    put-made : (k : ℕ) (o : Option Ty) → IsMade k o → IsMade n (option_map (λ of. within_limit (instance (tys (fitting k given)) of)) o)
    put-made k None h = tt
    put-made k (Some t) h = within-formed a.tables classes n (instance (tys (fitting k given)) t)
        (instance-formed a.tables classes n (tys (fitting k given)) (fitting-formed a.tables classes n k given formed) k t h)

    found : (es : List Entry) → AreWritten es → (i : ℕ) → IsFound (slice_get es i)
    found [] h i = tt
    found (e ∷ es) h zero = h.0
    found (e ∷ es) h (suc i) = found es h.1 i

    put-found : (o : Option Entry) → IsFound o → IsMade n (option_and_then (put_in given) o)
    put-found None h = tt
    put-found (Some e) h = put-made e.parameters e.of h

    alias-made : (es : List Entry) → AreWritten es → (place : Option ℕ) → IsMade n (option_and_then (put_in given) (option_and_then (slice_get es) place))
    alias-made es h None = tt
    alias-made es h (Some i) = put-found (slice_get es i) (found es h i)

    bottom-or : (o : Option Ty) → IsMade n o → (b : Bool) → IsFormed a.tables classes n (if b then bottom else unwrap_or o bottom)
    bottom-or o h true = tt
    bottom-or None h false = tt
    bottom-or (Some t) h false = h

    dynamic-or : (o : Option Ty) → IsMade n o → IsFormed a.tables classes n (unwrap_or o dynamic)
    dynamic-or None h = tt
    dynamic-or (Some t) h = h

    waiting-formed : (place : ℕ → Option ℕ) (es : List Entry) → AreWritten es → (k : ℕ) → IsFormed a.tables classes n (waiting_type place es k given)
    waiting-formed place es h k = bottom-or (alias_in place es k given) (alias-made es h (place k)) (list_any has_bottom given)

    pub final-formed : (place : ℕ → Option ℕ) (es : List Entry) → AreWritten es → (k : ℕ) → IsFormed a.tables classes n (final_type place es k given)
    final-formed place es h k = dynamic-or (alias_in place es k given) (alias-made es h (place k))

  -- ---- what is written in an alias

  module _ (place : ℕ → Option ℕ) (es : List Entry) (written : AreWritten es) where
    abbrev waiting : Tables
    waiting = record a.tables { alias_type = waiting_type place es }

    read-formed : (x : Alias) → IsFormed a.tables classes (length (parameters_of x.written)) (alias_read a (waiting_type place es) x)
    read-formed x =
        let n : ℕ = length (parameters_of x.written) in
        let around : Names = a.names (library_outer x.library) in
        let names : Names = with_parameters (parameters_of x.written) around in
        let given : Given = record { tables = waiting; header_names = λ k. names; number = λ p. 0 } in
        formed-as waiting a.tables (λ c. refl) classes n _
        (signature_formed given names classes n (scoped-inside classes around (parameters_of x.written) (scoped x.library))
        (λ k ts h. formed-as a.tables waiting (λ c. refl) classes n _
        (waiting-formed n ts (all-formed-as waiting a.tables (λ c. refl) classes n (tys ts) h) place es written k))
        x.written.result_type x.written.parameters)

  -- ---- in rounds

  -- an entry is that of an alias, and formed
  abbrev IsOf : Alias → Entry → Type 0
  IsOf x e = (e.parameters ≡ length (parameters_of x.written)) × IsWritten e

  abbrev AreOf : List Alias → List Entry → Type 0
  AreOf [] [] = Unit {0}
  AreOf (x ∷ xs) (e ∷ es) = IsOf x e × AreOf xs es
  AreOf _ _ = ⊥

  of-written : (xs : List Alias) (es : List Entry) → AreOf xs es → AreWritten es
  of-written [] [] h = tt
  of-written [] (e ∷ es) h = absurd h
  of-written (x ∷ xs) [] h = absurd h
  of-written (x ∷ xs) (e ∷ es) h = (h.0.1, of-written xs es h.1)

  each-of : (next : Alias → Entry → Entry) → ((x : Alias) (e : Entry) → IsOf x e → IsOf x (next x e)) → (xs : List Alias) (es : List Entry) → AreOf xs es → AreOf xs (with_each next xs es)
  each-of next step [] [] h = tt
  each-of next step [] (e ∷ es) h = absurd h
  each-of next step (x ∷ xs) [] h = absurd h
  each-of next step (x ∷ xs) (e ∷ es) h = (step x e h.0, each-of next step xs es h.1)

  or-made : (n : ℕ) (o p : Option Ty) → IsMade n o → IsMade n p → IsMade n (option_or o p)
  or-made n None p h k = k
  or-made n (Some t) p h k = h

  settled-made : (n : ℕ) (b : Bool) (t : Ty) → IsFormed a.tables classes n t → IsMade n (if b then None else Some t)
  settled-made n true t h = tt
  settled-made n false t h = h

  kept-made : (n : ℕ) (b : Bool) (o : Option Ty) → IsMade n o → IsMade n (if b then None else o)
  kept-made n true o h = tt
  kept-made n false o h = h

  dynamic-made : (n : ℕ) (b : Bool) → IsMade n (dynamic_if b)
  dynamic-made n true = tt
  dynamic-made n false = tt

  module _ (place : ℕ → Option ℕ) (all : List Alias) where
    next-of : (writes : Bool) (es : List Entry) → AreWritten es → (x : Alias) (e : Entry) → IsOf x e → IsOf x (next_entry writes a place es x e)
    next-of true es h x e k =
        let read : Ty = alias_read a (waiting_type place es) x in (
          k.0,
          or-made e.parameters e.of (settled read) k.1
              (settled-made e.parameters (has_bottom read) read (subst (λ n. IsFormed a.tables classes n read) (sym k.0) (read-formed place es h x))),
        )
    next-of false es h x e k = (k.0, kept-made e.parameters (has_bottom (alias_read a (waiting_type place es) x)) e.of k.1)

    rounds-of : (writes : Bool) (k : ℕ) (es : List Entry) → AreOf all es → AreOf all (rounds writes a place all k es)
    rounds-of writes zero es h = h
    rounds-of writes (suc k) es h =
        rounds-of writes k (round writes a place all es) (each-of (next_entry writes a place es) (next-of writes es (of-written all es h)) all es h)

    unwound-of : (x : Alias) (e : Entry) → IsOf x e → IsOf x (unwound a place all x e)
    unwound-of x e h = (h.0, or-made e.parameters e.of (dynamic_if (names_itself a place all x)) h.1 (dynamic-made e.parameters (names_itself a place all x)))

    first-of : (xs : List Alias) → AreOf xs (map (first_entry None) xs)
    first-of [] = tt
    first-of (x ∷ xs) = ((refl, tt), first-of xs)

    pub written-out : AreWritten (written_out a place all)
    written-out =
        let first = rounds-of true (length all) (map (first_entry None) all) (first-of all) in
        let middle = each-of (unwound a place all) unwound-of all (rounds true a place all (length all) (map (first_entry None) all)) first in
        of-written all (written_out a place all)
        (rounds-of true (length all) (with_each (unwound a place all) all (rounds true a place all (length all) (map (first_entry None) all))) middle)

    -- what aliases stand for at last is formed, in all tables with as many type parameters for each class
    pub aliases-formed : (tables : Tables) → ((c : ℕ) → tables.parameters c ≡ a.tables.parameters c) → (n k : ℕ) (given : List Ty) → AreFormed tables classes n (tys given)
        → IsFormed tables classes n (final_type place (written_out a place all) k given)
    aliases-formed tables same n k given h =
        formed-as a.tables tables (λ c. sym (same c)) classes n _
        (final-formed n given (all-formed-as tables a.tables same classes n (tys given) h) place (written_out a place all) written-out k)
