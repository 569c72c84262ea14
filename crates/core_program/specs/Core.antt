-- The forms of the core language, in which a name is an N: its number, or its text.
use Rattle.std.specs.Prelude.{ℕ, List, [], ◌∷◌, Option, Bool}
use Rattle.dart_base.specs.declared.place.Place.{Place}
use Rattle.dart_ir.specs.declared.class.Role.{Role}
use Rattle.dart_ir.specs.declared.kind.ThrowKind.{ThrowKind}
use Rattle.dart_ir.specs.declared.native.NativeId.{NativeId}
use Rattle.dart_ir.specs.declared.value.Value.{Value}
use Rattle.dart_ir.specs.Ty.{TyOf}
use Rattle.core_program.specs.declared.form.Way.{Way}

-- a form without parts
pub data Leaf (N : Type 0) : Type 0 where
  constant : Value → Leaf N
  this : Leaf N
  read : ℕ → Leaf N
  static_read : ℕ → Leaf N
  field : ℕ → Leaf N
  closure : ℕ → Leaf N
  jump : Way → ℕ → Leaf N
  rethrow : Leaf N
  -- the error, its message, and whether that ends in `=`
  raise : ThrowKind → N → Bool → Leaf N

-- what is done with one operand
pub data Unary (N : Type 0) : Type 0 where
  var : ℕ → Unary N
  write : ℕ → Unary N
  static_write : ℕ → Unary N
  field_write : ℕ → Unary N
  get : N → Unary N
  check : ℕ → Unary N
  throw : Unary N

-- what is done with two operands
pub data Binary (N : Type 0) : Type 0 where
  equal : Binary N
  set : N → Binary N

-- what is done with a row of operands
pub data Job (N : Type 0) : Type 0 where
  send : N → Job N
  super : Role → N → Job N
  call : ℕ → Job N
  apply : Job N
  super_new : ℕ → Job N
  join : Job N
  native : NativeId → Job N

mutual
  -- a form at its place
  pub data Core (N : Type 0) : Type 0 where
    at : Place → Form N → Core N

  pub data Form (N : Type 0) : Type 0 where
    leaf : Leaf N → Form N
    type_literal : TyOf N → Form N
    unary : Unary N → Core N → Form N
    binary : Binary N → Core N → Core N → Form N
    -- the operands, and the names of the last of them
    row : Job N → Cores N → List N → Form N
    -- the variable, its value and the body
    let_in : ℕ → Core N → Core N → Form N
    block : Cores N → Form N
    -- the condition and the two parts
    choice : Core N → Part N → Part N → Form N
    -- the class, the constructor, the type arguments and the arguments
    new : ℕ → ℕ → List (TyOf N) → Cores N → List N → Form N
    list : List (TyOf N) → Cores N → Form N
    is_type : Core N → TyOf N → Form N
    as_type : Core N → TyOf N → Form N
    -- its number as a target, the variables that are copied, the condition, the update and the body
    loop : ℕ → List ℕ → Part N → Part N → Part N → Form N
    return : Part N → Form N
    -- the body, the handlers and the final part
    try : Core N → Handlers N → Part N → Form N
    -- its number as a target, the operand and the cases
    switch : ℕ → Core N → Cases N → Form N
    labelled : ℕ → Core N → Form N

  pub data Cores (N : Type 0) : Type 0 where
    no_cores : Cores N
    core_more : Core N → Cores N → Cores N

  -- a part that may be missing
  pub data Part (N : Type 0) : Type 0 where
    missing : Part N
    given : Core N → Part N

  -- its test, the variables of the exception and of the stack trace, and the body
  pub data Handler (N : Type 0) : Type 0 where
    handler : Test N → Option ℕ → Option ℕ → Core N → Handler N

  pub data Test (N : Type 0) : Type 0 where
    everything : Test N
    on : TyOf N → Test N
    malformed : Core N → Test N

  pub data Handlers (N : Type 0) : Type 0 where
    no_handlers : Handlers N
    handler_more : Handler N → Handlers N → Handlers N

  -- the value, none for the default, and the statements
  pub data Case (N : Type 0) : Type 0 where
    case : Option Value → Core N → Case N

  pub data Cases (N : Type 0) : Type 0 where
    no_cases : Cases N
    case_more : Case N → Cases N → Cases N

-- ---- in order

abbrev pub cores : {N : Type 0} → List (Core N) → Cores N
cores [] = no_cores
cores (x ∷ xs) = core_more x (cores xs)

abbrev pub handlers : {N : Type 0} → List (Handler N) → Handlers N
handlers [] = no_handlers
handlers (x ∷ xs) = handler_more x (handlers xs)

abbrev pub cases : {N : Type 0} → List (Case N) → Cases N
cases [] = no_cases
cases (x ∷ xs) = case_more x (cases xs)
