use Rattle.std.proofs.Common.{◌≡◌, ℕ, List, ◌++◌, ◌∙◌, ap, append_assoc}
use Rattle.std.proofs.lemmas.Result.{on_ok_weaker}
use Rattle.turn_text.specs.Transcript.{thrown_bytes}
use Rattle.turn_text.proofs.transcript.push_uncaught.Goals as goal

-- A head, a middle part and a last one that are added one by one are a whole.
added : (old head middle last first second third : List ℕ) → first ≡ old ++ head → second ≡ first ++ middle → third ≡ second ++ last → third ≡ old ++ ((head ++ middle) ++ last)
added old head middle last first second third a b c =
    c ∙ ap (λ x. x ++ last) (b ∙ ap (λ x. x ++ middle) a ∙ append_assoc old head middle) ∙ append_assoc old (head ++ middle) last

pub returns : goal.returns
returns c =
    on_ok_weaker c.push.result
    (added c.args.bytes.now _ (thrown_bytes c.args.files.now c.args.place c.args.text.now) _ c.append.new.self c.push_thrown.new.bytes c.push.new.self
    c.in_ok-append.ensures.ok c.in_ok-push_thrown.ensures)
    c.push.ensures.ok
