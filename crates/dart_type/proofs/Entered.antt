-- Types entered among the interned ones.
use Rattle.std.proofs.Common.{◌≡◌, ℕ, zero, suc, ◌+◌, ◌<◌, ◌≤◌, List, [], ◌∷◌, ◌++◌, length, map, get_or, take, refl, sym, ap, ◌∙◌, arith, Result, Ok, Err, IfOk, subst as transport}
use Rattle.std.specs.declared.alloc.AllocError.{AllocError}
use Rattle.dart_ir.specs.Ty.{Ty, dynamic, class, parameter, function, ty, tys, function_ty, named_ty, named_tys, of_list, of_named}
use Rattle.dart_ir.specs.declared.types.TypeRef.{TypeRef}
use Rattle.dart_ir.specs.declared.types.TypeRef.TheViews.{out-FunctionType}
use Rattle.dart_ir.specs.declared.types.FunctionType.{FunctionType}
use Rattle.dart_ir.specs.declared.types.NamedType.{NamedType}
use Rattle.dart_ir.proofs.View.{function_out}
use Rattle.dart_type.specs.declared.intern.NamedNode.{NamedNode}
use Rattle.dart_type.specs.declared.intern.Node.{Node}
use Rattle.dart_type.specs.Instance.{argument, instance, instances, named_instance, named_instances}
use Rattle.dart_type.specs.Intern.{read, reads, named_reads, types, AreBelow, Grows, Gives, GivesAll, GivesNamed}
use Rattle.dart_type.proofs.Instances.{instances_map, named_instances_map, function_parts}
use Rattle.dart_type.proofs.Interned.{grows_trans, kept_all, gives_then, all_more, named_more, map_take_more}

pub if_ok : {E T : Type 0} (r : Result T E) (P Q : T → Type 0) → ((x : T) → P x → Q x) → IfOk r P → IfOk r Q
if_ok (Ok x) P Q f h = f x h
if_ok (Err e) P Q f h = tt

pub given_as : (a b : List Node) (r : Result ℕ AllocError) (t u : Ty) → t ≡ u → IfOk r (λ i. Gives a b i t) → IfOk r (λ i. Gives a b i u)
given_as a b r t u e h = if_ok r (λ i. Gives a b i t) (λ i. Gives a b i u) (λ i g. transport (λ v. Gives a b i v) e g) h

pub given_after : (a b c : List Node) (r : Result ℕ AllocError) (t u : Ty) → Grows a b → t ≡ u → IfOk r (λ i. Gives b c i t) → IfOk r (λ i. Gives a c i u)
given_after a b c r t u g e h = if_ok r (λ i. Gives b c i t) (λ i. Gives a c i u) (λ i k. gives_then a b c i t u g k e) h

-- the arguments are the same types after more nodes
pub args_kept : (a b : List Node) (args : List ℕ) → Grows a b → AreBelow (length a) args → reads (types b) args ≡ reads (types a) args
args_kept a b args g h = kept_all a b g args h

read_argument : (us : List Ty) (args : List ℕ) (i d : ℕ) → i < length args → read us (get_or args i d) ≡ argument (reads us args) i
read_argument us [] i d h = absurd (omega (arith, h))
read_argument us (j ∷ args) zero d h = refl
read_argument us (j ∷ args) (suc i) d h = read_argument us args i d (omega (arith, h))

no_argument : (us : List Ty) (args : List ℕ) (i : ℕ) → length args ≤ i → dynamic ≡ argument (reads us args) i
no_argument us [] i h = refl
no_argument us (j ∷ args) zero h = absurd (omega (arith, h))
no_argument us (j ∷ args) (suc i) h = no_argument us args i (omega (arith, h))

pub argument_read : (us : List Ty) (args : List ℕ) (i d : ℕ) → i < length args → read us (get_or args i d) ≡ instance (reads us args) (parameter i)
argument_read us args i d h = read_argument us args i d h

pub argument_missing : (us : List Ty) (args : List ℕ) (i : ℕ) → length args ≤ i → dynamic ≡ instance (reads us args) (parameter i)
argument_missing us args i h = no_argument us args i h

pub class_entered : (a b : List Node) (args is : List ℕ) (ts : List TypeRef) (c : ℕ) → GivesAll a b is (map (λ t. instance (reads (types a) args) (ty t)) ts)
    → class c (reads (types b) is) ≡ instance (reads (types a) args) (class c (tys ts))
class_entered a b args is ts c g = ap (class c) (ap of_list g.are ∙ instances_map (reads (types a) args) ts)

module _ (a b c d e : List Node) (args : List ℕ) (h : AreBelow (length a) args) (f : FunctionType) (r : ℕ) (q o : List ℕ) (m : List NamedNode)
    (gr : Gives a b r (instance (reads (types a) args) (ty (out-FunctionType f).result)))
    (gq : GivesAll b c q (map (λ t. instance (reads (types b) args) (ty t)) (out-FunctionType f).required.items))
    (go : GivesAll c d o (map (λ t. instance (reads (types c) args) (ty t)) (out-FunctionType f).optional.items))
    (gm : GivesNamed d e m (map (λ n. named_instance (reads (types d) args) (named_ty n)) (out-FunctionType f).named.items)) where
  to_c : Grows a c
  to_c = grows_trans a b c gr.grows gq.grows

  to_d : Grows a d
  to_d = grows_trans a c d to_c go.grows

  pub function_grows : Grows a e
  function_grows = grows_trans a d e to_d gm.grows

  c_to_e : Grows c e
  c_to_e = grows_trans c d e go.grows gm.grows

  b_to_e : Grows b e
  b_to_e = grows_trans b c e gq.grows c_to_e

  pub function_entered : function (read (types e) r) (reads (types e) q) (reads (types e) o) (named_reads (types e) m) ≡ instance (reads (types a) args) (function_ty f)
  function_entered =
      let A = reads (types a) args in
      function_parts (read (types e) r) (instance A (ty (out-FunctionType f).result)) (reads (types e) q) (instances A (tys (out-FunctionType f).required.items)) (reads (types e) o) (instances A (tys (out-FunctionType f).optional.items)) (named_reads (types e) m) (named_instances A (named_tys (out-FunctionType f).named.items))
      (b_to_e.same r gr.listed ∙ gr.shows)
      (kept_all c e c_to_e q gq.listed ∙ ap of_list gq.are ∙ instances_map (reads (types b) args) (out-FunctionType f).required.items ∙ ap (λ z. instances z (tys (out-FunctionType f).required.items)) (args_kept a b args gr.grows h))
      (kept_all d e gm.grows o go.listed ∙ ap of_list go.are ∙ instances_map (reads (types c) args) (out-FunctionType f).optional.items ∙ ap (λ z. instances z (tys (out-FunctionType f).optional.items)) (args_kept a c args to_c h))
      (ap of_named gm.are ∙ named_instances_map (reads (types d) args) (out-FunctionType f).named.items ∙ ap (λ z. named_instances z (named_tys (out-FunctionType f).named.items)) (args_kept a d args to_d h))
      ∙ sym (ap (instance A) (function_out f))

-- one more type of a list
pub entered_more : (a b c : List Node) (args is : List ℕ) (ts : List TypeRef) (j : ℕ) (t : TypeRef) (i : ℕ) → AreBelow (length a) args → j < length ts → t ≡ get_or ts j t
    → GivesAll a b is (map (λ u. instance (reads (types a) args) (ty u)) (take j ts)) → Gives b c i (instance (reads (types b) args) (ty t))
    → GivesAll a c (is ++ i ∷ []) (map (λ u. instance (reads (types a) args) (ty u)) (take (j + 1) ts))
entered_more a b c args is ts j t i h l e g k =
    let A = reads (types a) args in
    let k' : Gives b c i (instance A (ty t)) = transport (λ z. Gives b c i (instance z (ty t))) (args_kept a b args g.grows h) k in
    transport (λ z. GivesAll a c (is ++ i ∷ []) z) (sym (map_take_more (λ u. instance A (ty u)) ts j t l e)) (all_more a b c is (map (λ u. instance A (ty u)) (take j ts)) i (instance A (ty t)) g k')

pub named_entered_more : (a b c : List Node) (args : List ℕ) (is : List NamedNode) (ns : List NamedType) (j : ℕ) (n : NamedType) (i : ℕ) (x : ℕ) → AreBelow (length a) args → j < length ns → n ≡ get_or ns j n
    → x ≡ (named_ty n).0 → GivesNamed a b is (map (λ u. named_instance (reads (types a) args) (named_ty u)) (take j ns)) → Gives b c i (named_instance (reads (types b) args) (named_ty n)).1
    → GivesNamed a c (is ++ (record { name = x; of = i }) ∷ []) (map (λ u. named_instance (reads (types a) args) (named_ty u)) (take (j + 1) ns))
named_entered_more a b c args is ns j n i x h l e p g k =
    let A = reads (types a) args in
    let k' : Gives b c i (instance A (named_ty n).1) = transport (λ z. Gives b c i (instance z (named_ty n).1)) (args_kept a b args g.grows h) k in
    transport (λ z. GivesNamed a c (is ++ (record { name = x; of = i }) ∷ []) z)
    (ap (λ y. map (λ u. named_instance A (named_ty u)) (take j ns) ++ (y, instance A (named_ty n).1) ∷ []) p ∙ sym (map_take_more (λ u. named_instance A (named_ty u)) ns j n l e))
    (named_more a b c is (map (λ u. named_instance A (named_ty u)) (take j ns)) (record { name = x; of = i }) (instance A (named_ty n).1) g k')
