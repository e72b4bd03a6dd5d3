-- One history: one of its seats keeps it whole, each has seen a prefix of it, and each call belongs to one seat.
use Rattle.std.specs.Prelude.{◌≡◌, ◌≤◌, ◌+◌, ℕ, true, false, List, [], ◌∷◌, ◌++◌, length, sum_by}
use mathlib.Core.List.{IsPrefix}
use mathlib.Core.Option.{some}
use lib.ListN.{get_elem?}
use Rattle.store_ledger.specs.Counts.{once_below, times}
use Rattle.store_core.specs.Runs.{Call}
use Rattle.store_shared.specs.declared.history.view.HistoryView.{HistoryView}

-- the view of a keeper in contracts: the calls of the history, and the numbers of those that no front has claimed
pub record ModelKeeper : Type 0 where
  pub calls : List Call
  pub unclaimed : List ℕ

-- the view of a front in contracts: the calls that its client has seen, and the numbers of the client's own
pub record ModelFront : Type 0 where
  pub seen : List Call
  pub own : List ℕ

-- no number is in both lists, or twice in one
abbrev pub AreDisjoint : List ℕ → List ℕ → Type 0
AreDisjoint xs ys = (k : ℕ) → times k xs + times k ys ≤ 1

-- the view of the seat that knows everything
abbrev pub keeper_view : List Call → List ℕ → HistoryView
keeper_view log own = record { keeps = true; seen = log; other = []; own = own; taken = [] }

-- the view of a seat that has seen this
abbrev pub front_view : List Call → List ℕ → HistoryView
front_view log own = record { keeps = false; seen = log; other = []; own = own; taken = [] }

-- the invariant of the view of the seat `by`, where `keeper` keeps the history `log`
pub record IsOf (keeper : ℕ) (log : List Call) (by : ℕ) (v : HistoryView) : Type 0 where
  pub whole : v.keeps ≡ true → (by ≡ keeper) × (v.seen ≡ log)
  pub seen : IsPrefix v.seen log
  pub other : IsPrefix v.other log

-- how often the seat has the number k
abbrev pub held : ℕ → HistoryView → ℕ
held k v = times k v.own + times k v.taken

-- at most one seat keeps the history, and knows all of it; each has seen a prefix. All seats together have the number of each call once.
pub record ViewsFit (keeper : ℕ) (log : List Call) (views : List HistoryView) : Type 0 where
  pub each : (by : ℕ) (v : HistoryView) → get_elem? views by ≡ some v → IsOf keeper log by v
  pub once : (k : ℕ) → sum_by (held k) views ≡ once_below k (length log)

abbrev pub IsHistory : List HistoryView → Type 0
IsHistory views = (keeper : ℕ) × (log : List Call) × ViewsFit keeper log views
