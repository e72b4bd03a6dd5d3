use Rattle.std.proofs.Common.{◌≡◌, length, refl, sym, subst, ap, ap₂, ◌∙◌, ℕ}
use Rattle.std.specs.Prelude.{◌≢◌}
use Rattle.store_upload.specs.Uploads.{closed_plan}
use Rattle.store_upload.specs.Uploads as upload
use Rattle.b3_forest.specs.Borrowed.{borrowed_bytes}
use Rattle.b3_forest.specs.Followed.{ModelFollow, IsFirstNoted, IsNotedWith, MayNote, NothingNoted, bytes_at, followed, noting_merges}
use Rattle.b3_forest.specs.Uploads.{with_part}
use Rattle.b3_forest.proofs.Following.{merges_noted, noted_with, parts_with, room_of, reported_apart, reported_overlap}
use Rattle.b3_forest.proofs.follow.Follow.note.Goals as goal

pub returns-in-Some-clause-fault : goal.returns-in-Some-clause-fault
returns-in-Some-clause-fault c =
    let w = c.self.invariant in
    let b = borrowed_bytes c.self.inside.borrowed in
    let es = c.self.inside.subtrees.entries in
    let p = c.args.part.now in
    let plan = sym c.plan.ensures ∙ c.if-not-is_of.ensures.yes refl ∙ ap closed_plan c.len.ensures in
    let reported = c.in-Some.ensures (length b) w.parts w.keeps ∙ ap₂ (λ (i n : ℕ). upload.overlap_at length i n w.parts) c.offset.ensures (ap length c.fitting.ensures.bytes) in
    subst (λ (f : ModelFollow). (p.plan ≡ closed_plan (length f.bytes)) × IsFirstNoted f p.part c.in-Some.at) c.self.view_is
    (plan, reported_overlap b w.parts es p.part c.in-Some.at c.upload_laws.ensures.overlap w.keeps c.fitting.ensures.fits.some (sym reported))

pub returns-then-not-has_bytes-clause-fault : goal.returns-then-not-has_bytes-clause-fault
returns-then-not-has_bytes-clause-fault c =
    let w = c.self.invariant in
    let b = borrowed_bytes c.self.inside.borrowed in
    let es = c.self.inside.subtrees.entries in
    let p = c.args.part.now in
    let plan = sym c.plan.ensures ∙ c.if-not-is_of.ensures.yes refl ∙ ap closed_plan c.len.ensures in
    let reported = c.in_default.ensures (length b) w.parts w.keeps ∙ ap₂ (λ (i n : ℕ). upload.overlap_at length i n w.parts) c.offset.ensures (ap length c.fitting.ensures.bytes) in
    subst (λ (f : ModelFollow). (p.plan ≡ closed_plan (length f.bytes)) × NothingNoted f p.part × (p.part.bytes ≢ bytes_at f.bytes p.part)) c.self.view_is
    (plan, reported_apart b w.parts es p.part c.upload_laws.ensures.overlap w.keeps c.fitting.ensures.fits.some (sym reported), c.if-not-has_bytes.ensures.no refl)

pub returns-in_default-add-clause-fault : goal.returns-in_default-add-clause-fault
returns-in_default-add-clause-fault c =
    let w = c.self.invariant in
    let b = borrowed_bytes c.self.inside.borrowed in
    let es = c.self.inside.subtrees.entries in
    let p = c.args.part.now in
    let plan = sym c.plan.ensures ∙ c.if-not-is_of.ensures.yes refl ∙ ap closed_plan c.len.ensures in
    let reported = c.in_default.ensures (length b) w.parts w.keeps ∙ ap₂ (λ (i n : ℕ). upload.overlap_at length i n w.parts) c.offset.ensures (ap length c.fitting.ensures.bytes) in
    subst (λ (f : ModelFollow). MayNote f p) c.self.view_is
    (record { plan = plan; apart = reported_apart b w.parts es p.part c.upload_laws.ensures.overlap w.keeps c.fitting.ensures.fits.some (sym reported); same = c.if-not-has_bytes.ensures.yes refl })

pub add-requires : goal.add-requires
add-requires c =
    let w = c.self.invariant in
    let b = borrowed_bytes c.self.inside.borrowed in
    let plan = sym c.plan.ensures ∙ c.if-not-is_of.ensures.yes refl ∙ ap closed_plan c.len.ensures in
    let reported = c.in_default.ensures (length b) w.parts w.keeps ∙ ap₂ (λ (i n : ℕ). upload.overlap_at length i n w.parts) c.offset.ensures (ap length c.fitting.ensures.bytes) in
    (length b, w.parts, room_of b c.self.inside.subtrees.entries w c.args.part.now plan c.fitting.ensures.fits reported)

pub invariant_of-self-2 : goal.invariant_of-self-2
invariant_of-self-2 c =
    let w = c.self.invariant in
    let b = borrowed_bytes c.self.inside.borrowed in
    let es = c.self.inside.subtrees.entries in
    let p = c.args.part.now in
    let plan = sym c.plan.ensures ∙ c.if-not-is_of.ensures.yes refl ∙ ap closed_plan c.len.ensures in
    let reported = c.in_default.ensures (length b) w.parts w.keeps ∙ ap₂ (λ (i n : ℕ). upload.overlap_at length i n w.parts) c.offset.ensures (ap length c.fitting.ensures.bytes) in
    let room = room_of b es w p plan c.fitting.ensures.fits reported in
    record { parts = with_part p.part w.parts; keeps = c.in-Ok.ensures.kept (length b) w.parts room; same = parts_with b es p.part w.parts room (c.if-not-has_bytes.ensures.yes refl) w.same }

pub returns-clause-noted : goal.returns-clause-noted
returns-clause-noted c =
    let w = c.self.invariant in
    let b = borrowed_bytes c.self.inside.borrowed in
    let es = c.self.inside.subtrees.entries in
    let p = c.args.part.now in
    let plan = sym c.plan.ensures ∙ c.if-not-is_of.ensures.yes refl ∙ ap closed_plan c.len.ensures in
    let reported = c.in_default.ensures (length b) w.parts w.keeps ∙ ap₂ (λ (i n : ℕ). upload.overlap_at length i n w.parts) c.offset.ensures (ap length c.fitting.ensures.bytes) in
    let room = room_of b es w p plan c.fitting.ensures.fits reported in
    let kept = c.in-Ok.ensures.kept (length b) w.parts room in
    subst (λ (f : ModelFollow). IsNotedWith f (followed b c.add.new.subtrees.entries) p.part) c.self.view_is (noted_with b w.parts es c.add.new.subtrees.entries p.part room kept)

pub returns-clause-allowed : goal.returns-clause-allowed
returns-clause-allowed c =
    let w = c.self.invariant in
    let b = borrowed_bytes c.self.inside.borrowed in
    let es = c.self.inside.subtrees.entries in
    let p = c.args.part.now in
    let plan = sym c.plan.ensures ∙ c.if-not-is_of.ensures.yes refl ∙ ap closed_plan c.len.ensures in
    let reported = c.in_default.ensures (length b) w.parts w.keeps ∙ ap₂ (λ (i n : ℕ). upload.overlap_at length i n w.parts) c.offset.ensures (ap length c.fitting.ensures.bytes) in
    subst (λ (f : ModelFollow). MayNote f p) c.self.view_is
    (record { plan = plan; apart = reported_apart b w.parts es p.part c.upload_laws.ensures.overlap w.keeps c.fitting.ensures.fits.some (sym reported); same = c.if-not-has_bytes.ensures.yes refl })

pub returns-clause-merges : goal.returns-clause-merges
returns-clause-merges c =
    let w = c.self.invariant in
    let b = borrowed_bytes c.self.inside.borrowed in
    let es = c.self.inside.subtrees.entries in
    let p = c.args.part.now in
    let plan = sym c.plan.ensures ∙ c.if-not-is_of.ensures.yes refl ∙ ap closed_plan c.len.ensures in
    let reported = c.in_default.ensures (length b) w.parts w.keeps ∙ ap₂ (λ (i n : ℕ). upload.overlap_at length i n w.parts) c.offset.ensures (ap length c.fitting.ensures.bytes) in
    let room = room_of b es w p plan c.fitting.ensures.fits reported in
    let kept = c.in-Ok.ensures.kept (length b) w.parts room in
    let merges : c.in-Ok.merges ≡ noting_merges (followed b es) (followed b c.add.new.subtrees.entries) p.part =
    c.in-Ok.ensures.merges (length b) w.parts room ∙ merges_noted b w.parts es c.add.new.subtrees.entries p.part w.keeps kept in
    subst (λ (f : ModelFollow). c.in-Ok.merges ≡ noting_merges f (followed b c.add.new.subtrees.entries) p.part) c.self.view_is merges
