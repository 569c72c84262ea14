-- Interned types with each dynamic replaced by Bottom.
use Rattle.std.proofs.Common.{◌≡◌, ℕ, zero, suc, ◌+◌, ◌<◌, ◌≤◌, List, [], ◌∷◌, ◌++◌, length, map, take, get_or, refl, sym, ap, ◌∙◌, arith, subst as transport}
use Rattle.dart_ir.specs.Ty.{Ty, class, function, cons, named, of_list, of_named}
use Rattle.dart_type.specs.declared.intern.NamedNode.{NamedNode}
use Rattle.dart_type.specs.declared.intern.Shape.{Shape}
use Rattle.dart_type.specs.declared.intern.Node.{Node}
use Rattle.dart_type.specs.declared.intern.Node.TheVariants.{Function}
use Rattle.dart_type.specs.Relation.{floor, floors, named_floors}
use Rattle.dart_type.specs.Intern.{read, reads, named_reads, types, AreBelow, AreNamedBelow, IsOver, Grows, Gives, GivesAll, GivesNamed}
use Rattle.dart_type.proofs.Instances.{function_parts}
use Rattle.dart_type.proofs.Interned.{grows_trans, kept_all, kept_named, below_more, named_below_more, all_more, named_more, map_take_more}

-- the type of a named parameter with each dynamic replaced
abbrev pub named_floor : List Ty → NamedNode → ℕ × Ty
named_floor us n = (n.name, floor (read us n.of))

floors_map : (us : List Ty) (is : List ℕ) → of_list (map (λ i. floor (read us i)) is) ≡ floors (reads us is)
floors_map us [] = refl
floors_map us (i ∷ is) = ap (cons (floor (read us i))) (floors_map us is)

named_floors_map : (us : List Ty) (ns : List NamedNode) → of_named (map (named_floor us) ns) ≡ named_floors (named_reads us ns)
named_floors_map us [] = refl
named_floors_map us (n ∷ ns) = ap (named n.name (floor (read us n.of))) (named_floors_map us ns)

pub any_default : {X : Type 0} (xs : List X) (j : ℕ) (d e : X) → j < length xs → get_or xs j d ≡ get_or xs j e
any_default [] j d e h = absurd (omega (arith, h))
any_default (x ∷ xs) zero d e h = refl
any_default (x ∷ xs) (suc j) d e h = any_default xs j d e (omega (arith, h))

-- one more type of a list
pub floor_more : (a b c : List Node) (low is : List ℕ) (n j i d : ℕ) → n ≤ length a → AreBelow n is → j < length is → GivesAll a b low (map (λ x. floor (read (types a) x)) (take j is))
    → Gives b c i (floor (read (types b) (get_or is j d))) → GivesAll a c (low ++ i ∷ []) (map (λ x. floor (read (types a) x)) (take (j + 1) is))
floor_more a b c low is n j i d l h m g k =
    let x = get_or is j d in
    let x_below : x < n = h j d m in
    let k' : Gives b c i (floor (read (types a) x)) = transport (λ t. Gives b c i (floor t)) (g.grows.same x (omega (arith, x_below, l))) k in
    transport (λ ts. GivesAll a c (low ++ i ∷ []) ts) (sym (map_take_more (λ y. floor (read (types a) y)) is j x m (any_default is j d x m)))
    (all_more a b c low (map (λ y. floor (read (types a) y)) (take j is)) i (floor (read (types a) x)) g k')

pub named_floor_more : (a b c : List Node) (low ns : List NamedNode) (n j i : ℕ) (d : NamedNode) → n ≤ length a → AreNamedBelow n ns → j < length ns → GivesNamed a b low (map (named_floor (types a)) (take j ns))
    → Gives b c i (floor (read (types b) (get_or ns j d).of)) → GivesNamed a c (low ++ (record { name = (get_or ns j d).name; of = i }) ∷ []) (map (named_floor (types a)) (take (j + 1) ns))
named_floor_more a b c low ns n j i d l h m g k =
    let x = get_or ns j d in
    let x_below : x.of < n = h j d m in
    let k' : Gives b c i (floor (read (types a) x.of)) = transport (λ t. Gives b c i (floor t)) (g.grows.same x.of (omega (arith, x_below, l))) k in
    transport (λ ts. GivesNamed a c (low ++ (record { name = x.name; of = i }) ∷ []) ts) (sym (map_take_more (named_floor (types a)) ns j x m (any_default ns j d x m)))
    (named_more a b c low (map (named_floor (types a)) (take j ns)) (record { name = x.name; of = i }) (floor (read (types a) x.of)) g k')

pub class_floored : (a b : List Node) (low is : List ℕ) (c : ℕ) → GivesAll a b low (map (λ i. floor (read (types a) i)) is) → class c (reads (types b) low) ≡ floor (class c (reads (types a) is))
class_floored a b low is c g = ap (class c) (ap of_list g.are ∙ floors_map (types a) is)

module _ (a b c d e : List Node) (n : ℕ) (l : n ≤ length a) (f : Shape) (o : IsOver n (Function f)) (r : ℕ) (low_q low_o : List ℕ) (low_n : List NamedNode)
    (gr : Gives a b r (floor (read (types a) f.result)))
    (gq : GivesAll b c low_q (map (λ i. floor (read (types b) i)) f.required.items))
    (go : GivesAll c d low_o (map (λ i. floor (read (types c) i)) f.optional.items))
    (gn : GivesNamed d e low_n (map (named_floor (types d)) f.named.items)) where
  to_c : Grows a c
  to_c = grows_trans a b c gr.grows gq.grows

  to_d : Grows a d
  to_d = grows_trans a c d to_c go.grows

  pub floor_grows : Grows a e
  floor_grows = grows_trans a d e to_d gn.grows

  c_to_e : Grows c e
  c_to_e = grows_trans c d e go.grows gn.grows

  b_to_e : Grows b e
  b_to_e = grows_trans b c e gq.grows c_to_e

  pub function_floored : function (read (types e) r) (reads (types e) low_q) (reads (types e) low_o) (named_reads (types e) low_n)
      ≡ floor (function (read (types a) f.result) (reads (types a) f.required.items) (reads (types a) f.optional.items) (named_reads (types a) f.named.items))
  function_floored =
      function_parts (read (types e) r) (floor (read (types a) f.result)) (reads (types e) low_q) (floors (reads (types a) f.required.items)) (reads (types e) low_o) (floors (reads (types a) f.optional.items)) (named_reads (types e) low_n) (named_floors (named_reads (types a) f.named.items))
      (b_to_e.same r gr.listed ∙ gr.shows)
      (kept_all c e c_to_e low_q gq.listed ∙ ap of_list gq.are ∙ floors_map (types b) f.required.items ∙ ap floors (kept_all a b gr.grows f.required.items (below_more n (length a) l f.required.items o.1)))
      (kept_all d e gn.grows low_o go.listed ∙ ap of_list go.are ∙ floors_map (types c) f.optional.items ∙ ap floors (kept_all a c to_c f.optional.items (below_more n (length a) l f.optional.items o.2)))
      (ap of_named gn.are ∙ named_floors_map (types d) f.named.items ∙ ap named_floors (kept_named a d to_d f.named.items (named_below_more n (length a) l f.named.items o.3)))
