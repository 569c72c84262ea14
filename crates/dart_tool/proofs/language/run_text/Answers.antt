use Rattle.scope_load.specs.State.{state_of}
use Rattle.dart_tool.proofs.LanguageLaws.{told_ended, told_given, told_unloaded}
use Rattle.dart_tool.proofs.language.run_text.Goals as goal

pub returns-in-Ok-clause-answer : goal.returns-in-Ok-clause-answer
returns-in-Ok-clause-answer g c =
    told_ended (g.S.Sources.files c.args.sources.now) c.args.name.now c.args.text.now c.args.options (state_of c.in-Ok.loaded) c.execute_loaded.result c.in-Ok.ensures.answer c.execute_loaded.ensures.answer

pub returns-in-Ok-clause-runs : goal.returns-in-Ok-clause-runs
returns-in-Ok-clause-runs g c =
    told_given (g.S.Sources.files c.args.sources.now) c.args.name.now c.args.text.now c.args.options (state_of c.in-Ok.loaded) c.execute_loaded.result c.in-Ok.ensures.answer c.execute_loaded.ensures.answer

pub returns-in-Err-clause-answer : goal.returns-in-Err-clause-answer
returns-in-Err-clause-answer g c =
    told_unloaded (g.S.Sources.files c.args.sources.now) c.args.name.now c.args.text.now c.args.options c.in-Err.stop c.in-Err.ensures.answer
