-- What a call returns for the answer of a definition. Source: this library's own errors.
use Rattle.std.specs.Prelude.{◌≡◌, Result, Ok, Err}
use Rattle.bson_values.specs.ErrorView.{read_failure, write_failure}
use Rattle.bson_values.specs.Refusal.{ReadFault, WriteFault, Failure, FailsAs}
use Rattle.bson_values.specs.declared.de.Error.{Error as ReadError}
use Rattle.bson_values.specs.declared.ser.Error.{Error as WriteError}

-- A call that reads gives what is answered, its value seen so, or its failure; or memory ran out.
abbrev pub Reads : {X Y : Type 0} → (X → Y) → Result X ReadError → Result Y (Failure ReadFault) → Type 0
Reads see (Ok x) answer = answer ≡ Ok (see x)
Reads see (Err e) answer = FailsAs (read_failure e) answer

-- the same for a call that writes
abbrev pub Writes : {X Y : Type 0} → (X → Y) → Result X WriteError → Result Y (Failure WriteFault) → Type 0
Writes see (Ok x) answer = answer ≡ Ok (see x)
Writes see (Err e) answer = FailsAs (write_failure e) answer
