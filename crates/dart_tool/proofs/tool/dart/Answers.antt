use Rattle.std.proofs.Common.{◌≡◌, ◌∙◌, List, ℕ, None, Some, sym, ap, map}
use Rattle.std.specs.String.{string_bytes}
use Rattle.dart_words.specs.Words.{Command, command_of}
use Rattle.dart_tool.proofs.Outcomes.{words_answer, usage_answers}
use Rattle.dart_tool.proofs.tool.dart.Goals as goal

pub returns-in-Some-clause-answer : goal.returns-in-Some-clause-answer
returns-in-Some-clause-answer g c =
    let words : List (List ℕ) = map string_bytes c.args.words.now in
    let asked : Command = record { verb = c.in-Some.verb; file = c.as_str.result.now } in
    let is : command_of words ≡ Some asked = c.in-Some.ensures.read ∙ ap (λ n. Some (record { verb = c.in-Some.verb; file = n })) (sym c.as_str.ensures.value) in
    words_answer _ words (Some asked) _ _ _ is c.do_verb.ensures.answer

pub returns-in-None-clause-answer : goal.returns-in-None-clause-answer
returns-in-None-clause-answer g c =
    let words : List (List ℕ) = map string_bytes c.args.words.now in
    words_answer _ words None _ _ _ c.in-None.ensures.read (usage_answers _ _ _ _ c.deliver.ensures.delivers)
