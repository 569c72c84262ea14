use Rattle.std.proofs.Common.{◌≡◌, ◌∙◌, sym, ap, subst, is_some, true≢false, false, bytes_eq, Some, slice_get, refl}
use Rattle.std.specs.List.{list_any}
use Rattle.dart_base.proofs.Texts.{text_at, any_texts, Contains-at, lacks}
use Rattle.dart_base.proofs.names.Names.find.Goals as goal

pub returns-in_err-index-clause-known : goal.returns-in_err-index-clause-known
returns-in_err-index-clause-known c =
    let none = subst (λ texts. list_any (bytes_eq c.args.text.now) texts ≡ false) c.self.view_is (any_texts c.args.text.now c.self.inside.texts.keys ∙ sym c.in_err-index.ensures.found) in
    (λ some. absurd (true≢false (sym some ∙ ap is_some c.from_residual.ensures)), λ there. absurd (lacks c.args.self.now c.args.text.now none there))

pub returns-clause-found : goal.returns-clause-found
returns-clause-found c =
    subst (λ texts. slice_get texts c.in_ok-index.index ≡ Some c.args.text.now) c.self.view_is
    (text_at c.args.text.now c.self.inside.texts.keys c.in_ok-index.index c.in_ok-index.field-0-1.now c.in_ok-index.ensures.stored c.in_ok-index.ensures.key)

pub returns-clause-known : goal.returns-clause-known
returns-clause-known c =
    (λ _. Contains-at c.args.self.now c.in_ok-index.index c.args.text.now (returns-clause-found c), λ _. refl)
