use Rattle.store_shared.specs.Made.{full_limits}
use Rattle.engine_tests.proofs.streams.uploaded.Given as goal

abbrev pub ghosts-upload : goal.ghosts-upload
ghosts-upload g a = record {
  bytes_name = a.ledgers.bytes.name;
  bytes_parts = a.ledgers.bytes.parts;
  calls_name = a.ledgers.calls.name;
  calls_parts = a.ledgers.calls.parts;
  history = a.ledgers.history;
  limits = full_limits;
}
