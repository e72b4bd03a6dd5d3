use Rattle.std.proofs.Common.{rules, ◌≡◌}
use Rattle.hash_engines.specs.Keys.{key_at}
use Rattle.edge.proofs.Inputs.{known}
use Rattle.hash_engines.proofs.keys.read_key.Goals as goal

pub returns-clause-key : goal.returns-clause-key
returns-clause-key g c =
    let key : c.key_of.result ≡ key_at c.in-Ok.text.items = search rules in
    known (g.R.Read.remaining c.args.reader.now) c.in-Ok.text.items (λ text. c.key_of.result ≡ key_at text) c.in-Ok.ensures.bytes key
