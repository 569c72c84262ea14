-- No list of tokens leaves a choice between a function and an accessor.
use Rattle.std.proofs.Common.{ℕ, ◌∷◌, ◌++◌, refl}
use Rattle.dart_tree.specs.UnitTokens.{decl_kind_tokens}
use Rattle.laws_apart.proofs.Judges.{refuted, distinct}
use Rattle.laws_unit.specs.Statements.{CallChoiceAt}
use Rattle.laws_choice.proofs.Judging.{begun}
use Rattle.laws_choice.proofs.Leading.{judging}
use Rattle.laws_choice.proofs.Callables.{function_fine, accessor_fine, at_calling, at_accessing, function_decls_lead, accessor_decls_lead}

pub call_choice_at : (n : ℕ) → CallChoiceAt n
call_choice_at n = record {
  over_accessor = λ a t ts fits f. refuted judging begun function_fine at_accessing refl (decl_kind_tokens a) (t ∷ ts)
      ((accessor_decls_lead n).ends a fits begun refl) ((function_decls_lead n).holds (decl_kind_tokens a ++ t ∷ ts) f begun refl);
  over_function = λ a t ts fits f. refuted judging begun accessor_fine at_calling refl (decl_kind_tokens a) (t ∷ ts)
      ((function_decls_lead n).ends a fits begun refl) ((accessor_decls_lead n).holds (decl_kind_tokens a ++ t ∷ ts) f begun refl);
  never_both = λ a b fits other same. distinct judging begun function_fine at_accessing at_calling refl refl (decl_kind_tokens a) (decl_kind_tokens b)
      ((accessor_decls_lead n).ends a fits begun refl) ((function_decls_lead n).ends b other begun refl) same;
}
