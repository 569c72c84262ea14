-- The first type that is too large, as the code comes to it.
use Rattle.std.proofs.Common.{◌≡◌, ℕ, zero, suc, ◌<◌, ◌≤◌, ◌+◌, ◌++◌, ◌↔◌, IsTrue, Bool, true, false, cond, List, [], ◌∷◌, length, get_or, drop, Option, Some, None, arith, refl, sym, ap, ◌∙◌, subst as transport}
use Rattle.std.proofs.lemmas.List.{drop_more, drop_all}
use Rattle.dart_base.specs.declared.place.Place.{Place}
use Rattle.dart_ir.specs.Ty.{Ty, ty}
use Rattle.dart_ir.specs.declared.class.Classes.{Classes}
use Rattle.class_fault.specs.declared.program.HeaderType.{HeaderType}
use Rattle.class_fault.specs.declared.program.Declaration.{Declaration}
use Rattle.class_table.specs.Renumbered.{renumbered}
use Rattle.class_size.specs.Size.{IsTooLarge, IsFirst, no_more, here, later, option_list, header_list, user_types, all_user_types}

module _ (k : Classes) (ns : List ℕ) where
  -- the verdict on one type
  is_large : (b : Bool) (u : Ty) (t : HeaderType) → u ≡ renumbered ns (ty t.of) → (IsTrue b ↔ IsTooLarge k u) → b ≡ true → IsTooLarge k (renumbered ns (ty t.of))
  is_large b u t e h q = transport (IsTooLarge k) e (h.0 q)

  not_large : (b : Bool) (u : Ty) (t : HeaderType) → u ≡ renumbered ns (ty t.of) → (IsTrue b ↔ IsTooLarge k u) → b ≡ false → IsTooLarge k (renumbered ns (ty t.of)) → ⊥
  not_large b u t e h q w = let r : b ≡ true = h.1 (transport (IsTooLarge k) (sym e) w) in absurd (cc)

  module _ (ts : List HeaderType) (i : ℕ) (x : HeaderType) (is : x ≡ get_or ts i x) (l : i < length ts) (leads : (f : Option Place) → IsFirst k ns (drop i ts) f → IsFirst k ns ts f) (b : Bool) (u : Ty) (e : u ≡ renumbered ns (ty x.of)) (h : IsTrue b ↔ IsTooLarge k u) where
    rest : drop i ts ≡ x ∷ drop (i + 1) ts
    rest = drop_more ts i x l ∙ ap (λ y. y ∷ drop (i + 1) ts) (sym is)

    pub first_here : b ≡ true → IsFirst k ns ts (Some x.place)
    first_here q = leads (Some x.place) (transport (λ ys. IsFirst k ns ys (Some x.place)) (sym rest) (here x (drop (i + 1) ts) (is_large b u x e h q)))

    pub first_later : b ≡ false → (f : Option Place) → IsFirst k ns (drop (i + 1) ts) f → IsFirst k ns ts f
    first_later q f r = leads f (transport (λ ys. IsFirst k ns ys f) (sym rest) (later x (drop (i + 1) ts) f (not_large b u x e h q) r))

  pub first_none : (ts : List HeaderType) (i : ℕ) → ((f : Option Place) → IsFirst k ns (drop i ts) f → IsFirst k ns ts f) → length ts ≤ i → IsFirst k ns ts None
  first_none ts i leads l = leads None (transport (λ ys. IsFirst k ns ys None) (sym (drop_all i ts l)) no_more)

  -- the first among some types is the first among them and others behind
  pub first_front : (xs ys : List HeaderType) (o : Option Place) (f : Place) → o ≡ Some f → IsFirst k ns xs o → IsFirst k ns (xs ++ ys) (Some f)
  first_front [] ys _ f q no_more = absurd (cc)
  first_front (x ∷ xs) ys _ f q (here t _ large) = transport (IsFirst k ns (x ∷ (xs ++ ys))) q (here t (xs ++ ys) large)
  first_front (x ∷ xs) ys o f q (later t _ _ small r) = later t (xs ++ ys) (Some f) small (first_front xs ys o f q r)

  pub first_behind : (xs ys : List HeaderType) (o f : Option Place) → o ≡ None → IsFirst k ns xs o → IsFirst k ns ys f → IsFirst k ns (xs ++ ys) f
  first_behind [] ys _ f q no_more s = s
  first_behind (x ∷ xs) ys _ f q (here t _ large) s = absurd (cc)
  first_behind (x ∷ xs) ys o f q (later t _ _ small r) s = later t (xs ++ ys) f small (first_behind xs ys o f q r s)

  -- the first of a header
  module _ (i : Declaration) (xs : List HeaderType) (is : xs ≡ option_list i.superclass) where
    pub superclass_first : (o : Option Place) (f : Place) → o ≡ Some f → IsFirst k ns xs o → IsFirst k ns (header_list i) (Some f)
    superclass_first o f q r =
        first_front (option_list i.superclass ++ i.mixins.items) i.interfaces.items (Some f) f refl
        (first_front (option_list i.superclass) i.mixins.items o f q (transport (λ z. IsFirst k ns z o) is r))

    pub mixin_first : (n o : Option Place) (f : Place) → n ≡ None → IsFirst k ns xs n → (ys : List HeaderType) → ys ≡ i.mixins.items → o ≡ Some f → IsFirst k ns ys o → IsFirst k ns (header_list i) (Some f)
    mixin_first n o f q r ys e s v =
        first_front (option_list i.superclass ++ i.mixins.items) i.interfaces.items (Some f) f refl
        (first_behind (option_list i.superclass) i.mixins.items n (Some f) q (transport (λ z. IsFirst k ns z n) is r)
        (transport (λ z. IsFirst k ns z (Some f)) e (transport (IsFirst k ns ys) s v)))

    pub interface_first : (n m o : Option Place) → n ≡ None → IsFirst k ns xs n → (ys zs : List HeaderType) → ys ≡ i.mixins.items → zs ≡ i.interfaces.items → m ≡ None → IsFirst k ns ys m → IsFirst k ns zs o → IsFirst k ns (header_list i) o
    interface_first n m o q r ys zs e g s v w =
        first_behind (option_list i.superclass ++ i.mixins.items) i.interfaces.items None o refl
        (first_behind (option_list i.superclass) i.mixins.items n None q (transport (λ z. IsFirst k ns z n) is r)
        (transport (λ z. IsFirst k ns z None) e (transport (IsFirst k ns ys) s v)))
        (transport (λ z. IsFirst k ns z o) g w)

  pub user_first : (i : Declaration) (b : Bool) (o : Option Place) → b ≡ i.standing.is_user → b ≡ true → IsFirst k ns (header_list i) o → IsFirst k ns (user_types i) o
  user_first i b o e q r = transport (λ z. IsFirst k ns (cond z (header_list i) []) o) (sym q ∙ e) r

  pub none_first : (i : Declaration) → i.standing.is_user ≡ false → IsFirst k ns (user_types i) None
  none_first i q = transport (λ z. IsFirst k ns (cond z (header_list i) []) None) (sym q) no_more

  -- the first of all headers
  module _ (is : List Declaration) (j : ℕ) (x : Declaration) (at : x ≡ get_or is j x) (l : j < length is) (leads : (f : Option Place) → IsFirst k ns (all_user_types (drop j is)) f → IsFirst k ns (all_user_types is) f) (o : Option Place) (r : IsFirst k ns (user_types x) o) where
    others : drop j is ≡ x ∷ drop (j + 1) is
    others = drop_more is j x l ∙ ap (λ y. y ∷ drop (j + 1) is) (sym at)

    pub all_here : (f : Place) → o ≡ Some f → IsFirst k ns (all_user_types is) (Some f)
    all_here f q = leads (Some f) (transport (λ z. IsFirst k ns (all_user_types z) (Some f)) (sym others) (first_front (user_types x) (all_user_types (drop (j + 1) is)) o f q r))

    pub all_later : o ≡ None → (f : Option Place) → IsFirst k ns (all_user_types (drop (j + 1) is)) f → IsFirst k ns (all_user_types is) f
    all_later q f s = leads f (transport (λ z. IsFirst k ns (all_user_types z) f) (sym others) (first_behind (user_types x) (all_user_types (drop (j + 1) is)) o f q r s))

  pub all_none : (is : List Declaration) (j : ℕ) → ((f : Option Place) → IsFirst k ns (all_user_types (drop j is)) f → IsFirst k ns (all_user_types is) f) → length is ≤ j → IsFirst k ns (all_user_types is) None
  all_none is j leads l = leads None (transport (λ z. IsFirst k ns (all_user_types z) None) (sym (drop_all j is l)) no_more)
