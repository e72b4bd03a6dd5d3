use Rattle.store_shared.specs.Made.{full_limits}
use Rattle.engine_tests.proofs.sessions.sessions_share_a_store_and_page_its_journal.Given as goal

abbrev pub ghosts-is_shared : goal.ghosts-is_shared
ghosts-is_shared g a = record {
  bytes_name = a.ledgers.bytes.name;
  bytes_parts = a.ledgers.bytes.parts;
  calls_name = a.ledgers.calls.name;
  calls_parts = a.ledgers.calls.parts;
  history = a.ledgers.history;
  limits = full_limits;
}
