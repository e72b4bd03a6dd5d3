-- The content of a complete upload.
use Rattle.std.proofs.Common.{◌≡◌, ◌∙◌, ◌+◌, ◌<◌, ◌≤◌, ℕ, List, [], ◌∷◌, Option, Some, None, refl, ap, sym, arith, length, inl, inr}
use Rattle.std.specs.Prelude.{IfSome}
use Rattle.std.proofs.lemmas.Bool.{cases_eq}
use Rattle.b3_core.specs.ExtendedOutput.{output_of}
use Rattle.b3_core.specs.Modes.{digest_of, hash_mode, hash_of}
use Rattle.b3_core.specs.Tree.{tree_top}
use Rattle.b3_forest.specs.Parts.{HeldPart}
use Rattle.b3_forest.specs.Uploads.{content_of}
use Rattle.b3_forest.proofs.Contents.{whole_from}
use Rattle.b3_forest.proofs.Ends.{complete_all}
use Rattle.store_books.specs.Books.{AreSound, upload_at}
use Rattle.store_books.specs.Commands.{finish_refused, ready_refusal}
use Rattle.store_books.proofs.Commands.{found_among, none_mapped}
use Rattle.store_core.specs.Commands.{content_in, opened}
use Rattle.store_core.specs.Model.{AreJoined, ModelStoreBooks}
use Rattle.store_core.specs.inner.Model.{ModelStoreUpload, content}
use Rattle.store_upload.specs.Uploads.{ArePlaced, ModelUpload, end_of, finish_fault, first_gap, length_of}
use Rattle.store_upload.proofs.Complete.{gap_here, gap_stops}

pub top_is : (x : List ℕ) → output_of (tree_top x 0 hash_mode) 0 32 ≡ hash_of x
unfolding digest_of
top_is x = refl

-- parts that leave no gap begin where the ones before them end
joined_from : (n a : ℕ) (ps : List HeldPart) → a ≤ n → ArePlaced length n a ps → n ≤ first_gap length a ps → AreJoined a ps
joined_from n a [] low placed all = tt
joined_from n a (p ∷ ps) low placed all = elim (cases_eq p.0 a) [
  | inl same ↦ (same, placed.1.some, joined_from n (end_of length p) ps placed.1.within placed.2 (let on = gap_here length a p ps same in omega (arith, on, all)))
  | inr apart ↦
      let stops = gap_stops length a p ps apart in
      let within = placed.1.within in
      let some = placed.1.some in
      absurd (omega (arith, stops, all, placed.0, within, some, apart))
]

-- the content of a complete upload is as long as it, and its parts are joined
pub record IsContent (u : ModelUpload (List ℕ)) : Type 0 where
  pub long : length (content_of u.parts) ≡ length_of u
  pub joined : AreJoined 0 u.parts

pub content_is : (u : ModelUpload (List ℕ)) → ArePlaced length (length_of u) 0 u.parts → finish_fault length u ≡ None → IsContent u
content_is u placed none =
    let all = complete_all u placed (sym none) in
    let gap : length_of u ≤ first_gap length 0 u.parts = omega (arith, all.gap, all.end) in
    let whole = (whole_from (length_of u) 0 u.parts (omega arith) placed gap).len in
    record { long = omega (arith, whole); joined = joined_from (length_of u) 0 u.parts (omega arith) placed gap }

-- an upload that is ready
pub is_ready : (s : ModelStoreBooks) (number : ℕ) (u : ModelStoreUpload) → upload_at s number ≡ Some u → ready_refusal length s number ≡ None → finish_fault length u.upload ≡ None
is_ready s number u found ready = none_mapped finish_refused (finish_fault length u.upload) (rw found at ready)

pub opened_is : (s : ModelStoreBooks) (number : ℕ) (u : ModelStoreUpload) → upload_at s number ≡ Some u → opened s number ≡ u.upload
opened_is s number u found = rw found refl

-- the content of an upload that is ready is as long as it
pub long_content : (s : ModelStoreBooks) (number : ℕ) → AreSound length length hash_of s → ready_refusal length s number ≡ None → (u : ModelStoreUpload) → upload_at s number ≡ Some u → length (content u) ≡ length_of u.upload
long_content s number sound ready u found = (content_is u.upload (found_among length length hash_of s number u found sound).1.placed (is_ready s number u found ready)).long

-- and so is the content of the one of that number
pub long_found : (s : ModelStoreBooks) (number : ℕ) → AreSound length length hash_of s → ready_refusal length s number ≡ None → (u : ModelStoreUpload) → upload_at s number ≡ Some u → length (content_in s number) ≡ length_of u.upload
long_found s number sound ready u found = ap (λ (v : ModelUpload (List ℕ)). length (content_of v.parts)) (opened_is s number u found) ∙ long_content s number sound ready u found

pub long_opened : (s : ModelStoreBooks) (number : ℕ) → AreSound length length hash_of s → ready_refusal length s number ≡ None → IfSome (upload_at s number) (λ u. length (content_in s number) ≡ length_of u.upload)
long_opened s number sound ready = by (upload_at s number) refl
  where
    by : (found : Option ModelStoreUpload) → upload_at s number ≡ found → IfSome found (λ (u : ModelStoreUpload). length (content_in s number) ≡ length_of u.upload)
    by None is = tt
    by (Some u) is = long_found s number sound ready u is
