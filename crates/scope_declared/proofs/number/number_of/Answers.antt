use Rattle.std.proofs.Common.{◌++◌, ◌∙◌, ℕ, List, Bool, true, false, cond, codes, decimal, sym, ap}
use Rattle.scope_declared.specs.Number.{is_private, number_in, number_of}
use Rattle.scope_declared.proofs.number.number_of.Goals as goal

pub returns-in_ok-private : goal.returns-in_ok-private
unfolding number_of
returns-in_ok-private c =
    c.number_in-name.ensures ∙ ap (λ (text : List ℕ). number_in c.args.names.now text) (c.deref.ensures.value ∙ c.in_ok-private.ensures)
    ∙ ap (λ (b : Bool). number_in c.args.names.now (cond b (c.args.text.now ++ (codes "@" ++ decimal c.args.library)) c.args.text.now)) (sym (sym c.is_private.ensures ∙ c.if-is_private.true))

pub returns-else-is_private : goal.returns-else-is_private
unfolding number_of
returns-else-is_private c =
    c.number_in-open_name.ensures
    ∙ ap (λ (b : Bool). number_in c.args.names.now (cond b (c.args.text.now ++ (codes "@" ++ decimal c.args.library)) c.args.text.now)) (sym (sym c.is_private.ensures ∙ c.if-is_private.false))
