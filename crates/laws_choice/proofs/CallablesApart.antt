-- No list of tokens leaves a choice between variables and a function or an accessor.
use Rattle.std.proofs.Common.{ℕ, Bool, [], ◌∷◌, ◌++◌, refl}
use Rattle.dart_tree.specs.UnitTokens.{decl_kind_tokens}
use Rattle.laws_apart.proofs.Judges.{either_leads, eased, refuted, distinct}
use Rattle.laws_unit.specs.Statements.{callable_decl, CallableApartAt}
use Rattle.laws_choice.proofs.Judging.{State, begun, calling, accessing, holding, among, outside}
use Rattle.laws_choice.proofs.Leading.{Leads, judging}
use Rattle.laws_choice.proofs.Types.{at_begin}
use Rattle.laws_choice.proofs.Callables.{function_decls_lead, accessor_decls_lead}
use Rattle.laws_choice.proofs.Variables.{variable_fine, at_holding, variables_decl_leads}

-- what no beginning of one of the two leads to
abbrev callable_fine : State → Bool
callable_fine = outside (holding ∷ [])

abbrev at_callable : State → Bool
at_callable = among (calling ∷ accessing ∷ [])

callable_decl_leads : (n : ℕ) → Leads callable_fine at_begin at_callable decl_kind_tokens (callable_decl n)
callable_decl_leads n = either_leads (eased (function_decls_lead n) callable_fine at_begin at_callable refl)
    (eased (accessor_decls_lead n) callable_fine at_begin at_callable refl)

pub callables_apart_at : (n : ℕ) → CallableApartAt n
callables_apart_at n = record {
  over_callable = λ a t ts fits f. refuted judging begun variable_fine at_callable refl (decl_kind_tokens a) (t ∷ ts)
      ((callable_decl_leads n).ends a fits begun refl) ((variables_decl_leads n).holds (decl_kind_tokens a ++ t ∷ ts) f begun refl);
  over_variables = λ a t ts fits f. refuted judging begun callable_fine at_holding refl (decl_kind_tokens a) (t ∷ ts)
      ((variables_decl_leads n).ends a fits begun refl) ((callable_decl_leads n).holds (decl_kind_tokens a ++ t ∷ ts) f begun refl);
  never_both = λ a b fits other same. distinct judging begun variable_fine at_callable at_holding refl refl (decl_kind_tokens a) (decl_kind_tokens b)
      ((callable_decl_leads n).ends a fits begun refl) ((variables_decl_leads n).ends b other begun refl) same;
}
