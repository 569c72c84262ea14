-- The class and the name that the external declaration of each native has in the prelude.
use Rattle.std.specs.Prelude.{ℕ, List, [], ◌∷◌, ◌&&◌, Bool, Option, codes, bytes_eq, find}
use Rattle.dart_ir.specs.declared.native.NativeId.{NativeId}
use Rattle.dart_ir.specs.declared.native.NativeId.TheVariants as n

-- the class that declares it; of a function of the library no text
abbrev pub class_text : NativeId → List ℕ
class_text n.Identical = []
class_text n.Print = []
class_text n.ObjectEqual = codes "Object"
class_text n.ObjectHashCode = codes "Object"
class_text n.ObjectRuntimeType = codes "Object"
class_text n.ObjectToString = codes "Object"
class_text n.NumAdd = codes "num"
class_text n.NumSubtract = codes "num"
class_text n.NumMultiply = codes "num"
class_text n.NumDivide = codes "num"
class_text n.NumTruncatingDivide = codes "num"
class_text n.NumModulo = codes "num"
class_text n.NumNegate = codes "num"
class_text n.NumLess = codes "num"
class_text n.NumLessEqual = codes "num"
class_text n.NumGreater = codes "num"
class_text n.NumGreaterEqual = codes "num"
class_text n.NumCompareTo = codes "num"
class_text n.IntParse = codes "int"
class_text n.IntAnd = codes "int"
class_text n.IntOr = codes "int"
class_text n.IntXor = codes "int"
class_text n.IntComplement = codes "int"
class_text n.IntShiftLeft = codes "int"
class_text n.IntShiftRight = codes "int"
class_text n.StringFromCharCode = codes "String"
class_text n.StringLength = codes "String"
class_text n.StringIndex = codes "String"
class_text n.StringAdd = codes "String"
class_text n.StringCodeUnitAt = codes "String"
class_text n.StringSubstring = codes "String"
class_text n.StringIndexOf = codes "String"
class_text n.StringCompareTo = codes "String"
class_text n.ListNew = codes "List"
class_text n.ListLength = codes "List"
class_text n.ListSetLength = codes "List"
class_text n.ListIndex = codes "List"
class_text n.ListIndexSet = codes "List"
class_text n.ListAdd = codes "List"
class_text n.ListRemoveLast = codes "List"
class_text n.ListRemoveAt = codes "List"
class_text n.ListInsert = codes "List"
class_text n.IsolateSpawn = codes "Isolate"
class_text n.ReceivePortNew = codes "ReceivePort"
class_text n.ReceivePortSendPort = codes "ReceivePort"
class_text n.ReceivePortListen = codes "ReceivePort"
class_text n.ReceivePortClose = codes "ReceivePort"
class_text n.SendPortSend = codes "SendPort"

-- The name of the member: a setter's ends in `=`, `-` without an operand is `unary-`, and a factory's is that behind
-- the class and its dot, so that of an unnamed one is no text (ECMA-408, 10.1.1 Operators, 10.3 Setters, 10.6.2
-- Factories).
abbrev pub member_text : NativeId → List ℕ
member_text n.Identical = codes "identical"
member_text n.Print = codes "_print"
member_text n.ObjectEqual = codes "=="
member_text n.ObjectHashCode = codes "hashCode"
member_text n.ObjectRuntimeType = codes "runtimeType"
member_text n.ObjectToString = codes "toString"
member_text n.NumAdd = codes "+"
member_text n.NumSubtract = codes "-"
member_text n.NumMultiply = codes "*"
member_text n.NumDivide = codes "/"
member_text n.NumTruncatingDivide = codes "~/"
member_text n.NumModulo = codes "%"
member_text n.NumNegate = codes "unary-"
member_text n.NumLess = codes "<"
member_text n.NumLessEqual = codes "<="
member_text n.NumGreater = codes ">"
member_text n.NumGreaterEqual = codes ">="
member_text n.NumCompareTo = codes "compareTo"
member_text n.IntParse = codes "parse"
member_text n.IntAnd = codes "&"
member_text n.IntOr = codes "|"
member_text n.IntXor = codes "^"
member_text n.IntComplement = codes "~"
member_text n.IntShiftLeft = codes "<<"
member_text n.IntShiftRight = codes ">>"
member_text n.StringFromCharCode = codes "fromCharCode"
member_text n.StringLength = codes "length"
member_text n.StringIndex = codes "[]"
member_text n.StringAdd = codes "+"
member_text n.StringCodeUnitAt = codes "codeUnitAt"
member_text n.StringSubstring = codes "substring"
member_text n.StringIndexOf = codes "indexOf"
member_text n.StringCompareTo = codes "compareTo"
member_text n.ListNew = []
member_text n.ListLength = codes "length"
member_text n.ListSetLength = codes "length="
member_text n.ListIndex = codes "[]"
member_text n.ListIndexSet = codes "[]="
member_text n.ListAdd = codes "add"
member_text n.ListRemoveLast = codes "removeLast"
member_text n.ListRemoveAt = codes "removeAt"
member_text n.ListInsert = codes "insert"
member_text n.IsolateSpawn = codes "spawn"
member_text n.ReceivePortNew = []
member_text n.ReceivePortSendPort = codes "sendPort"
member_text n.ReceivePortListen = codes "listen"
member_text n.ReceivePortClose = codes "close"
member_text n.SendPortSend = codes "send"

-- all natives, in the order of the prelude
abbrev pub natives : List NativeId
natives =
    n.Identical ∷ n.Print ∷ n.ObjectEqual ∷ n.ObjectHashCode ∷
    n.ObjectRuntimeType ∷ n.ObjectToString ∷ n.NumAdd ∷ n.NumSubtract ∷
    n.NumMultiply ∷ n.NumDivide ∷ n.NumTruncatingDivide ∷ n.NumModulo ∷
    n.NumNegate ∷ n.NumLess ∷ n.NumLessEqual ∷ n.NumGreater ∷
    n.NumGreaterEqual ∷ n.NumCompareTo ∷ n.IntParse ∷ n.IntAnd ∷
    n.IntOr ∷ n.IntXor ∷ n.IntComplement ∷ n.IntShiftLeft ∷
    n.IntShiftRight ∷ n.StringFromCharCode ∷ n.StringLength ∷ n.StringIndex ∷
    n.StringAdd ∷ n.StringCodeUnitAt ∷ n.StringSubstring ∷ n.StringIndexOf ∷
    n.StringCompareTo ∷ n.ListNew ∷ n.ListLength ∷ n.ListSetLength ∷
    n.ListIndex ∷ n.ListIndexSet ∷ n.ListAdd ∷ n.ListRemoveLast ∷
    n.ListRemoveAt ∷ n.ListInsert ∷ n.IsolateSpawn ∷ n.ReceivePortNew ∷
    n.ReceivePortSendPort ∷ n.ReceivePortListen ∷ n.ReceivePortClose ∷ n.SendPortSend ∷ []

abbrev pub is_named : List ℕ → List ℕ → NativeId → Bool
is_named class member native = bytes_eq (class_text native) class && bytes_eq (member_text native) member

-- the native that a class declares under a name, if there is one
abbrev pub native_named : List ℕ → List ℕ → Option NativeId
native_named class member = find (is_named class member) natives
