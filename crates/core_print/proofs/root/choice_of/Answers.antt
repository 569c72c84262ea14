use Rattle.std.proofs.Common.{◌≡◌, true, false, ℕ, List, Bor, Option, refl, sym, subst, inr}
use Rattle.std.specs.Option.{option_map}
use Rattle.std.specs.Prelude.{Contains}
use Rattle.core_text.specs.declared.program.Choice.TheVariants.{Named}
use Rattle.core_print.specs.Root.{IsChoiceOf}
use Rattle.core_print.proofs.root.choice_of.Goals as goal

pub returns-in-None-find : goal.returns-in-None-find
returns-in-None-find c =
    let unknown : Contains c.args.names.now c.in-Some.text.now → ⊥ = λ has. let no : false ≡ true = c.in-None-find.ensures.known.1 has in absurd cc in
    subst (λ (name : Option (Bor (List ℕ))). IsChoiceOf c.args.names.now (option_map (λ text. text.now) name) (Named (record { 0 = c.count.result })))
    (sym c.in-Some.is)
    (record { 0 = c.count.result }, inr (unknown, c.count.ensures.count), refl)
