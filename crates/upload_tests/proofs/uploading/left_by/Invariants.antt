use Rattle.upload_tests.proofs.uploading.left_by.Given as goal

abbrev pub ghosts-uploaded : goal.ghosts-uploaded
ghosts-uploaded g a = record {
  bytes_name = a.ledgers.bytes.name;
  bytes_parts = a.ledgers.bytes.parts;
  calls_name = a.ledgers.calls.name;
  calls_parts = a.ledgers.calls.parts;
  history = a.ledgers.history;
  limits = (a.cut.tenants, a.cut.entries, a.cut.max_workers);
}
