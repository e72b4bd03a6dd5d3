use Rattle.store_shared.specs.Made.{full_limits}
use Rattle.example.proofs.sharing.back_up_shared.Given as goal

abbrev pub ghosts-back_up_counted : goal.ghosts-back_up_counted
ghosts-back_up_counted g a = record {
  bytes_name = a.ledgers.bytes.name;
  bytes_parts = a.ledgers.bytes.parts;
  calls_name = a.ledgers.calls.name;
  calls_parts = a.ledgers.calls.parts;
  history = a.ledgers.history;
  limits = full_limits;
}
