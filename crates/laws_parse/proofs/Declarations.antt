-- Aliases, functions with accessors, and declarations where members are found (ECMA-408, 18 Libraries and Scripts).
use Rattle.std.proofs.Common.{◌≡◌, ℕ, zero, suc, Bool, true, false, if◌then◌else◌, List, [], length, inl, inr, refl, ltb}
use Rattle.dart_token.specs.declared.token.Token.{Token}
use Rattle.dart_tree.specs.Unit.{DeclKind}
use Rattle.dart_tree.specs.UnitTokens.{decl_kind_tokens}
use Rattle.grammar_laws.specs.Codes.{nowhere}
use Rattle.grammar_laws.proofs.Codes.{within_none, within_self}
use Rattle.grammar_laws.proofs.Cuts.{failed}
use Rattle.grammar_laws.proofs.Restated.{nothing_laws, restated, reread}
use Rattle.dart_syntax.specs.Statements.{within}
use Rattle.token_codes.specs.Reads.{Reads}
use Rattle.syntax_readers.specs.Statements.{stage}
use Rattle.syntax_readers.specs.Declarations as r
use Rattle.laws_stmt.proofs.Besides.{besides_at}
use Rattle.laws_block.proofs.Recursion.{all_at}
use Rattle.laws_unit.specs.Statements.{AliasReadAt, MembersReadAt, ClassReadAt, CallableReadAt}
use Rattle.laws_unit.specs.Statements.{callable_decl, callable_first, variable_first, DeclPartsReadAt, DeclKindReadAt}
use Rattle.laws_unit.proofs.Aliases.{aliases_at}
use Rattle.laws_unit.proofs.Classes.{classes_at}
use Rattle.laws_unit.proofs.Callables.{callables_at}
use Rattle.laws_unit.proofs.DeclKinds.{decl_kinds_at}
use Rattle.laws_choice.proofs.TypesGo.{types_go_at}
use Rattle.laws_choice.proofs.Aliases.{aliases_apart_at}
use Rattle.laws_choice.proofs.CallChoices.{call_choice_at}
use Rattle.laws_choice.proofs.CallablesApart.{callables_apart_at}
use Rattle.laws_parse.specs.Statements.{MembersRead}
use Rattle.laws_parse.proofs.Parts.{type_read, head_parts}
use Rattle.laws_parse.proofs.Members.{member_parts}

-- ---- of each kind

pub aliases_read : (n : ℕ) → AliasReadAt n
aliases_read n = aliases_at n (head_parts n) (all_at n).others.parameters (aliases_apart_at n)

pub classes_read : (n : ℕ) → MembersReadAt n → ClassReadAt n
classes_read n M = classes_at n (head_parts n) M

variables_read : (n : ℕ) → Reads (stage n).nodes.variables (within n).nodes.variables variable_first nowhere false
variables_read n = (besides_at n (λ m le. (all_at m).others.block)).for_parts.variables

-- ---- where there is no room for a node, there are no functions and accessors

none_tried : (d : Bool) (ts : List Token) → (if d then failed {Token = Token} {A = DeclKind} ts else failed ts) ≡ failed ts
none_tried true ts = refl
none_tried false ts = refl

no_callables : CallableReadAt zero
unfolding r.accessor r.function
no_callables = reread (restated (nothing_laws decl_kind_tokens callable_first nowhere false) (λ x none. absurd none) out (λ ts f. inl f) into
    (within_self callable_first) (λ x none. within_none []) (λ h. h))
    (λ ts. none_tried (ltb (length ts) (length ts)) ts) where
      out : (x : DeclKind) → (callable_decl zero).Fits x → ⊥
      out x (inl (y, none, e)) = none
      out x (inr (y, none, e)) = none

      into : (ts : List Token) → (callable_decl zero).front ts → ts ≡ []
      into ts (inl e) = e
      into ts (inr e) = e

pub callables_read : (n : ℕ) → CallableReadAt n
callables_read zero = no_callables
callables_read (suc n) = callables_at n (member_parts n) (type_read n) (types_go_at n) (call_choice_at (suc n))

-- ---- of all kinds

module _ (M : MembersRead) where
  decl_parts : (n : ℕ) → DeclPartsReadAt n
  decl_parts n = record {
    classes = λ m lt. classes_read m (M m);
    aliases = λ m lt. aliases_read m;
    callable = callables_read n;
    variables = variables_read n;
  }

  pub decl_kinds_read : (n : ℕ) → DeclKindReadAt n
  decl_kinds_read n = decl_kinds_at n (decl_parts n) (callables_apart_at n)
