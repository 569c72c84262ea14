-- Natives of lists that only read.
use Rattle.std.proofs.Common.{◌≡◌, ℕ, ◌∷◌, [], Bool, Some, ℤ, pos, slice_get, sym, ap, ◌∙◌}
use Rattle.dart_ir.specs.declared.native.NativeId.TheVariants as n
use Rattle.dart_ir.specs.declared.number.Ref.{Ref}
use Rattle.dart_ir.specs.declared.value.Value.{Value}
use Rattle.dart_ir.specs.declared.value.Value.TheVariants.{At}
use Rattle.dart_ir.specs.Integer.{integer_value}
use Rattle.dart_store.specs.declared.store.Kind.TheVariants as kind
use Rattle.dart_store.specs.Heap.{Heap, kind_of, length_of, field_at}
use Rattle.native_base.specs.Plan.{place}
use Rattle.native_number.specs.Number.{number_of}
use Rattle.evaluation.specs.State.{answer, ends}
use Rattle.evaluation.specs.Externals.{native}
use Rattle.machine_frame.specs.declared.around.Around.{Around}
use Rattle.machine_frame.specs.Outside.{setting_of}
use Rattle.machine_frame.proofs.Natives.{list_item, list_length}
use Rattle.machine_loop.specs.Operator.{AnswersAtOnce, ReadsAtOnce}

pub item_at_once : (r : Ref) (fixed : Bool) (list index : Value) (h : Heap) (i : ℤ) (k : ℕ) (u : Value) → list ≡ At r → kind_of (slice_get h.objects r.0) ≡ kind.List fixed
    → number_of index ≡ Some i → place (length_of (slice_get h.objects r.0)) i ≡ Some k → u ≡ field_at h r.0 k
    → (a : Around) → AnswersAtOnce a n.ListIndex list index h u
item_at_once r fixed list index h i k u is is_list number inside holds a at st e =
    ap (λ v. native (setting_of a) at n.ListIndex (v ∷ index ∷ []) st) is
    ∙ list_item a at r fixed st (ap (λ (h : Heap). kind_of (slice_get h.objects r.0)) e ∙ is_list) index i k number
    (ap (λ (h : Heap). place (length_of (slice_get h.objects r.0)) i) e ∙ inside)
    ∙ ap (λ (h : Heap). ends (answer (field_at h r.0 k)) st) e ∙ ap (λ u. ends (answer u) st) (sym holds)

pub length_at_once : (r : Ref) (fixed : Bool) (list : Value) (h : Heap) (u : Value) → list ≡ At r → kind_of (slice_get h.objects r.0) ≡ kind.List fixed
    → u ≡ integer_value (pos (length_of (slice_get h.objects r.0))) → (a : Around) → ReadsAtOnce a n.ListLength list h u
length_at_once r fixed list h u is is_list holds a at st e =
    ap (λ v. native (setting_of a) at n.ListLength (v ∷ []) st) is
    ∙ list_length a at r fixed st (ap (λ (h : Heap). kind_of (slice_get h.objects r.0)) e ∙ is_list)
    ∙ ap (λ (h : Heap). ends (answer (integer_value (pos (length_of (slice_get h.objects r.0))))) st) e ∙ ap (λ u. ends (answer u) st) (sym holds)
