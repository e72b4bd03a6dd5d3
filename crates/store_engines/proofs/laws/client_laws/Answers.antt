use Rattle.store_engines.proofs.Accepted.{each_was_accepted}
use Rattle.store_engines.proofs.Promises.{begun_is_open, numbers_rise, sealed_is_held, seals_what_was_put, stays_open, stays_put}
use Rattle.store_engines.proofs.laws.client_laws.Goals as goal

pub returns-clause-each : goal.returns-clause-each
returns-clause-each c = each_was_accepted

pub returns-clause-begun : goal.returns-clause-begun
returns-clause-begun c = begun_is_open

pub returns-clause-stays : goal.returns-clause-stays
returns-clause-stays c = stays_open

pub returns-clause-numbers : goal.returns-clause-numbers
returns-clause-numbers c = numbers_rise

pub returns-clause-put : goal.returns-clause-put
returns-clause-put c = stays_put

pub returns-clause-sealed : goal.returns-clause-sealed
returns-clause-sealed c = seals_what_was_put

pub returns-clause-held : goal.returns-clause-held
returns-clause-held c = sealed_is_held
