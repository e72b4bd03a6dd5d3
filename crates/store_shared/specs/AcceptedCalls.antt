-- An accepted call, as the model has it.
use Rattle.store_core.specs.Runs.{Call, change, put}
use Rattle.store_shared.specs.declared.history.accepted_call.CallKind.{CallKind}
use Rattle.store_shared.specs.declared.history.accepted_call.CallKind.TheVariants.{Change, Put}

abbrev pub call_of : CallKind → Call
call_of (Change command) = change command
call_of (Put upload part) = put upload part.value
