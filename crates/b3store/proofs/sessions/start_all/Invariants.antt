use Rattle.std.proofs.Common.{◌+◌, ◌<◌}
use Rattle.b3store.proofs.sessions.start_all.Given as goal

-- each session that was started has one part
abbrev pub invariant-sessions : goal.invariant-sessions
invariant-sessions g l = l.sessions < l.share.parts + l._i
