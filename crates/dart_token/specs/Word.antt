-- The words of the language.
use Rattle.std.specs.Prelude.{ℕ, List, codes, Bool, true, false}
use Rattle.dart_token.specs.declared.word.Word.{Word}
use Rattle.dart_token.specs.declared.word.Word.TheVariants as w

-- how each word is written: first the reserved words, then the built-in identifiers
abbrev pub word_text : Word → List ℕ
word_text w.Assert = codes "assert"
word_text w.Break = codes "break"
word_text w.Case = codes "case"
word_text w.Catch = codes "catch"
word_text w.Class = codes "class"
word_text w.Const = codes "const"
word_text w.Continue = codes "continue"
word_text w.Default = codes "default"
word_text w.Do = codes "do"
word_text w.Else = codes "else"
word_text w.Enum = codes "enum"
word_text w.Extends = codes "extends"
word_text w.False = codes "false"
word_text w.Final = codes "final"
word_text w.Finally = codes "finally"
word_text w.For = codes "for"
word_text w.If = codes "if"
word_text w.In = codes "in"
word_text w.Is = codes "is"
word_text w.New = codes "new"
word_text w.Null = codes "null"
word_text w.Rethrow = codes "rethrow"
word_text w.Return = codes "return"
word_text w.Super = codes "super"
word_text w.Switch = codes "switch"
word_text w.This = codes "this"
word_text w.Throw = codes "throw"
word_text w.True = codes "true"
word_text w.Try = codes "try"
word_text w.Var = codes "var"
word_text w.Void = codes "void"
word_text w.While = codes "while"
word_text w.With = codes "with"
word_text w.Abstract = codes "abstract"
word_text w.As = codes "as"
word_text w.Deferred = codes "deferred"
word_text w.Dynamic = codes "dynamic"
word_text w.Export = codes "export"
word_text w.External = codes "external"
word_text w.Factory = codes "factory"
word_text w.Get = codes "get"
word_text w.Implements = codes "implements"
word_text w.Import = codes "import"
word_text w.Library = codes "library"
word_text w.Operator = codes "operator"
word_text w.Part = codes "part"
word_text w.Set = codes "set"
word_text w.Static = codes "static"
word_text w.Typedef = codes "typedef"

-- whether the word is reserved: all are, but the built-in identifiers
abbrev pub is_reserved : Word → Bool
is_reserved w.Abstract = false
is_reserved w.As = false
is_reserved w.Deferred = false
is_reserved w.Dynamic = false
is_reserved w.Export = false
is_reserved w.External = false
is_reserved w.Factory = false
is_reserved w.Get = false
is_reserved w.Implements = false
is_reserved w.Import = false
is_reserved w.Library = false
is_reserved w.Operator = false
is_reserved w.Part = false
is_reserved w.Set = false
is_reserved w.Static = false
is_reserved w.Typedef = false
is_reserved other = true
