-- No command with a file comes to the status of words that are no command.
use Rattle.std.proofs.Common.{◌≡◌, ◌∙◌, sym, ap, refl, ℕ, List, Option, Bool, false}
use Rattle.dart_tool.specs.declared.outcome.Outcome.{Outcome}
use Rattle.dart_tool.specs.declared.status.Refusal.{Refusal}
use Rattle.dart_tool.specs.declared.status.Status.{Status}
use Rattle.dart_tool.specs.declared.status.Status.TheVariants.{Done, Usage, Refused, Uncaught, CheckFailed, Limit, ReadFault, WriteFault, Memory}
use Rattle.dart_tool.specs.Outcome.{refused, finish_status, is_cut_short}
use Rattle.dart_tool.specs.Tool.{Delivers}
use Rattle.turn_text.specs.declared.finish.Finish.{Finish}
use Rattle.turn_text.specs.declared.finish.Finish.TheVariants as f

pub refused_status : (why : Refusal) (name : List ℕ) (out : Outcome) → out ≡ refused why name → out.status ≡ Usage → ⊥
refused_status why name out is e =
    let both : Refused ≡ Usage = sym (ap (λ (o : Outcome). o.status) is) ∙ e in cc

pub written_status : (finish : Finish) → finish_status finish ≡ Usage → ⊥
written_status f.Done e = cc
written_status f.Uncaught e = cc
written_status f.CheckFailed e = cc
written_status f.Limit e = cc

-- nothing that a program writes is cut short
pub written_whole : (finish : Finish) → is_cut_short (finish_status finish) ≡ false
written_whole f.Done = refl
written_whole f.Uncaught = refl
written_whole f.CheckFailed = refl
written_whole f.Limit = refl

-- delivering an outcome answers no other status than its own and those of faults
pub delivered_status : (due : Outcome) (status : Status) (before after : Option (List ℕ)) → (due.status ≡ Usage → ⊥) → Delivers due status before after → status ≡ Usage → ⊥
delivered_status due Usage before after none h e = none (sym h.0)
delivered_status due Done before after none h e = cc
delivered_status due Refused before after none h e = cc
delivered_status due Uncaught before after none h e = cc
delivered_status due CheckFailed before after none h e = cc
delivered_status due Limit before after none h e = cc
delivered_status due ReadFault before after none h e = cc
delivered_status due WriteFault before after none h e = cc
delivered_status due Memory before after none h e = cc
