-- Definitions for private functions, in addition to specs/BoardRule.
use Rattle.std.specs.Prelude.{◌≡◌, ℕ, ◌+◌, [], ◌++◌, nat_eq, nat_lt, MatchBool}
use Rattle.atomic_table.specs.Table.{Me}
use Rattle.store_board.specs.declared.seats.SeatView.{SeatView}
use Rattle.store_board.specs.BoardRule.{drawing_view, done_view, stopping_view, seeing_view}

-- the sum of two views
abbrev pub sum_view : SeatView → SeatView → SeatView
sum_view v w = record v {
  rights = v.rights + w.rights;
  drawn = v.drawn ++ w.drawn;
  done_marks = v.done_marks + w.done_marks;
  stop_marks = v.stop_marks + w.stop_marks;
  seen_marks = v.seen_marks + w.seen_marks;
}

-- the number was drawn if it is one of the board's, otherwise the seat is done
abbrev pub Claimed : Me (Unit {0}) SeatView → ℕ → Me (Unit {0}) SeatView → Type 0
Claimed v n w = (w.1 ≡ []) × MatchBool (nat_lt n v.0.parts) (w.0 ≡ drawing_view v.0 n) (w.0 ≡ done_view v.0)

-- the seat has stopped the board
abbrev pub Stopped : Me (Unit {0}) SeatView → Me (Unit {0}) SeatView → Type 0
Stopped v w = (w.1 ≡ []) × (w.0 ≡ stopping_view v.0)

-- a stop was seen; or there was none, and the seat had neither stopped the board nor seen it stopped
abbrev pub Looked : Me (Unit {0}) SeatView → ℕ → Me (Unit {0}) SeatView → Type 0
Looked v n w = (w.1 ≡ []) × MatchBool (nat_eq n 1) (w.0 ≡ seeing_view v.0) ((w.0 ≡ v.0) × (v.0.stop_marks ≡ 0) × (v.0.seen_marks ≡ 0))
