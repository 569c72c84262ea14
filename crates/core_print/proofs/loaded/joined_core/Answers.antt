use Rattle.std.proofs.Common.{◌≡◌, ◌∙◌, sym, refl, subst, ℕ, List, length}
use Rattle.core_names.specs.Within.{AreWithin}
use Rattle.core_program.specs.ProgramView as pv
use Rattle.dart_ir.specs.declared.class.Classes.{Classes}
use Rattle.dart_execute.specs.Joined.{IsJoined}
use Rattle.dart_execute.proofs.Joined.{same_texts}
use Rattle.core_print.proofs.loaded.joined_core.Goals as goal

pub returns : goal.returns
returns c a texts is =
    let made = c.in_ok-made.made in
    let k = c.args.classes in
    let names : made.names ≡ c.args.names = c.in_ok-made.ensures.names in
    let inside : AreWithin (length made.names) (pv.program (record made { classes = k })) = c.if-not-are_within.ensures.0 refl in
    record {
      names = names;
      classes = refl;
      same = same_texts a made k (names ∙ sym texts) (subst (λ (l : Classes). IsJoined a l k) (sym c.in_ok-made.ensures.classes) is)
          ∙ c.in_ok-made.ensures.program a texts;
      within = subst (λ (t : List (List ℕ)). AreWithin (length t) (pv.program (record made { classes = k }))) names inside;
    }
