-- The workers of an upload, and what their threads report.
use Rattle.std.specs.Prelude.{◌≡◌, ℕ, List, [], ◌∷◌, Option, None, All, IfSome}
use Rattle.std.specs.Option.{option_or}
use Rattle.std.specs.declared.thread.PromisedHandle.{PromisedHandle}
use Rattle.b3_forest.specs.Borrowed.{borrowed_bytes}
use Rattle.store_board.specs.Passes.{IsGiverOf, given_of}
use Rattle.store_board.specs.Seats.{IsSeatOf}
use Rattle.store_board.specs.declared.passes.GivePass.{GivePass}
use Rattle.store_board.specs.declared.passes.Taken.{Taken}
use Rattle.store_shared.specs.Cuts.{part_at}
use Rattle.store_shared.specs.Gates.{GateRule}
use Rattle.store_shared.specs.inner.Gates.{IsFaultOf}
use Rattle.store_shared.specs.Uploading.{ModelCut, cut_count}
use Rattle.store_shared.specs.declared.fault.UploadFaultKind.{UploadFaultKind}
use Rattle.store_shared.specs.declared.job.Exchange.{Exchange}
use Rattle.store_shared.specs.declared.worker.Report.{Report}
use Rattle.store_shared.specs.declared.worker.ReportOf.{ReportOf}
use Rattle.store_shared.specs.declared.worker.Worker.{Worker}

-- a worker's seat belongs to the exchange's board, and its pass to the hand-over
abbrev pub IsWorkerOf : Exchange → Worker → Type 0
IsWorkerOf exchange worker = IsSeatOf exchange.board worker.seat × IsGiverOf exchange.hand_over worker.pass

-- workers that have given nothing
abbrev pub AreWorkersOf : Exchange → List Worker → Type 0
AreWorkersOf exchange workers = All (λ worker. IsWorkerOf exchange worker × (given_of worker.pass ≡ [])) workers

-- what was handed over is the part with a number that has passed
pub record IsPassedPart (rule : GateRule) (c : ModelCut) (t : Taken) : Type 0 where
  pub number : ℕ
  pub part : t.part.part ≡ part_at c.bytes c.part_chunks number
  pub passed : rule.has_passed number

-- everything that was given is such a part
abbrev pub AllPassed : GateRule → ModelCut → GivePass → Type 0
AllPassed rule c pass = All (IsPassedPart rule c) (given_of pass)

-- a report: a fault that the gate may have caused, or out of memory, or none; and everything that the worker gave has passed
abbrev pub IsReportOf : Exchange → GateRule → ModelCut → Report → Type 0
IsReportOf exchange rule c report =
    IfSome report.fault (IsFaultOf rule (cut_count c)) × IsWorkerOf exchange report.worker × AllPassed rule c report.worker.pass

-- the thread's promise is about these parts, this gate and this exchange
abbrev pub IsThreadOf : {G : Type 0} → ModelCut → G → Exchange → PromisedHandle Report (ReportOf G) → Type 0
IsThreadOf c gate exchange h = (borrowed_bytes h.promise.borrowed ≡ c.bytes) × (h.promise.part_chunks ≡ c.part_chunks) × (h.promise.gate.now ≡ gate) × (h.promise.exchange.now ≡ exchange)

-- the fault of the first worker that had one
unfoldable pub fault_of_first : List Report → Option UploadFaultKind
fault_of_first [] = None
fault_of_first (report ∷ reports) = option_or report.fault (fault_of_first reports)
