-- How cases, handlers and tries are seen.
use Rattle.std.proofs.Common.{append-nil}
use Rattle.std.proofs.lemmas.List.{map-append}
use Rattle.lower_leaf.proofs.FormLaws.{forms}
use Rattle.lower_function.proofs.Used.{handlers_named, cases_named}
use Rattle.lower_clause.proofs.Joined.{part_or_missing}

pub ruleset formed = (forms, handlers_named, cases_named, map-append, append-nil, part_or_missing)
