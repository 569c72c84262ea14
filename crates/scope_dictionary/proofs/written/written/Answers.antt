use Rattle.std.proofs.Common.{◌≡◌, ◌∙◌, ◌++◌, ℕ, List, Bor, MatchOption, Option, sym, ap, subst}
use Rattle.std.specs.Option.{option_map}
use Rattle.std.proofs.lemmas.Bool.Decides.{Decides-eqb}
use Rattle.std.proofs.lemmas.Slice.Eq.{strip_suffix_is}
use Rattle.scope_dictionary.proofs.Texts.{written-missing, written-private}
use Rattle.scope_dictionary.proofs.written.written.Goals as goal

-- what the call says of the name and the suffix
abbrev Strips : List ℕ → List ℕ → Option (Bor (List ℕ)) → Type 0
Strips suffix name r = MatchOption r ((front : List ℕ) → name ≡ front ++ suffix → ⊥) (λ x. name ≡ x.now ++ suffix)

pub returns-in_err-text : goal.returns-in_err-text
returns-in_err-text c = λ text.
    let strips : Strips c.args.suffix.now c.args.name.now c.strip_suffix.result = strip_suffix_is Decides-eqb _ _ _ c.strip_suffix.ensures.cases in
    let lacks = subst (Strips c.args.suffix.now c.args.name.now) c.in_err-text.was strips in
    written-missing c.args.suffix.now c.args.name.now (sym c.is_private.ensures ∙ c.if-not-is_private.false) lacks text _ (ap (option_map (λ found. found.now)) c.from_residual.ensures)

pub returns-then-is_private : goal.returns-then-is_private
returns-then-is_private c = λ text.
    let strips : Strips c.args.suffix.now c.args.name.now c.strip_suffix.result = strip_suffix_is Decides-eqb _ _ _ c.strip_suffix.ensures.cases in
    let parts = subst (Strips c.args.suffix.now c.args.name.now) c.in_ok-text.was strips in
    written-private c.args.suffix.now c.in_ok-text.text.now c.args.name.now (sym c.is_private.ensures ∙ c.if-not-is_private.false) (sym c.if-is_private.ensures) parts text
