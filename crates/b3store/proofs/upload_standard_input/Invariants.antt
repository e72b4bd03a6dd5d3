use Rattle.store_shared.specs.Made.{full_limits}
use Rattle.b3store.proofs.upload_standard_input.Given as goal

abbrev pub ghosts-upload_input : goal.ghosts-upload_input
ghosts-upload_input g a = record {
  bytes_name = a.ledgers.bytes.name;
  bytes_parts = a.ledgers.bytes.parts;
  calls_name = a.ledgers.calls.name;
  calls_parts = a.ledgers.calls.parts;
  history = a.ledgers.history;
  limits = full_limits;
}
