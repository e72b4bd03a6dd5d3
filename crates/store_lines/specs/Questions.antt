-- Questions: the lines of a session that ask the store and that a script does not have, and the texts of replies.
use Rattle.std.specs.Prelude.{ℕ, List, [], ◌∷◌, ◌++◌, ◌+◌, Option, Some, None, Result, Ok, Err, if◌then◌else◌, length, codes}
use Rattle.std.specs.Fmt.{decimal}
use Rattle.std.specs.List.{flat_map}
use Rattle.std.specs.Str.{bytes_eq}
use Rattle.edge.specs.Fields.{of_one, of_three, of_two}
use Rattle.hex.specs.Hex.{encode_lower}
use Rattle.store_books.specs.declared.books.UploadStatus.{UploadStatus}
use Rattle.store_books.specs.declared.books.Usage.{Usage}
use Rattle.store_books.specs.declared.refusal.Refusal.{Refusal}
use Rattle.store_books.specs.declared.totals.Totals.{Totals}
use Rattle.store_books.specs.Refusals.{refusal_text}
use Rattle.store_books.specs.Totals.{totals_text}
use Rattle.store_core.specs.declared.store.questions.Counts.{Counts}
use Rattle.store_core.specs.declared.store.questions.Question.{Question}
use Rattle.store_core.specs.declared.store.questions.Question.TheVariants as questions
use Rattle.store_core.specs.declared.store.questions.Reply.{Reply}
use Rattle.store_core.specs.declared.store.questions.Reply.TheVariants as replies
use Rattle.store_lines.specs.Grammar.{Forms, of_held}
use Rattle.store_lines.specs.Redo.{redo_text}
use Rattle.store_lines.specs.Texts.{held_text, numbered, refused_text, sealed_text}

-- ---- lines

-- the questions that only a session has
abbrev pub session_forms : Forms Question
session_forms =
    (codes "has", of_held (λ tenant address. questions.Holds tenant address))
    ∷ (codes "uploads", of_one (λ tenant. questions.Uploads tenant))
    ∷ (codes "objects", of_three (λ tenant from count. questions.Objects tenant from count))
    ∷ (codes "redo", of_two (λ from count. questions.Redo from count))
    ∷ []

-- the question of a line that consists of one word
abbrev pub question_of_word : List ℕ → Option Question
question_of_word word =
    if bytes_eq word (codes "tenants") then Some questions.Tenants
    else if bytes_eq word (codes "counts") then Some questions.Counts
    else None

-- ---- replies: each line with its newline

-- the digits of bytes, or a dash if there are none
abbrev pub digits_text : List ℕ → List ℕ
digits_text [] = codes "-"
digits_text (b ∷ bytes) = encode_lower (b ∷ bytes)

-- the number of bytes, and their digits
abbrev pub object_text : List ℕ → List ℕ
object_text bytes = codes "object " ++ (decimal (length bytes) ++ (codes " " ++ (digits_text bytes ++ codes "\n")))

abbrev pub usage_text : Usage → List ℕ
usage_text u = codes "used " ++ (decimal u.used ++ (codes " reserved " ++ (decimal u.reserved ++ (codes " limit " ++ (decimal u.limit ++ codes "\n")))))

-- an object's address and its length, in a line
abbrev pub listed_line : List ℕ × ℕ → List ℕ
listed_line object = encode_lower object.0 ++ (codes " " ++ (decimal object.1 ++ codes "\n"))

-- the number of objects, and the line of each
abbrev pub list_text : List (List ℕ × ℕ) → List ℕ
list_text objects = numbered (codes "list ") (length objects) ++ flat_map listed_line objects

-- the number from which the next page lists objects, and how many this one has
abbrev pub page_front : ℕ → ℕ → List ℕ
page_front next len = codes "objects " ++ (decimal next ++ (codes " " ++ (decimal len ++ codes "\n")))

-- these, and the line of each object
abbrev pub page_text : ℕ → List (List ℕ × ℕ) → List ℕ
page_text next objects = page_front next (length objects) ++ flat_map listed_line objects

-- an upload's end, or a dash if it is not fixed
abbrev pub end_text : Option ℕ → List ℕ
end_text None = codes "-"
end_text (Some end) = decimal end

-- an open upload's number, its bound, its end and the number of bytes that it holds, in a line
abbrev pub open_upload_line : UploadStatus → List ℕ
open_upload_line u = decimal u.upload ++ (codes " " ++ (decimal u.bound ++ (codes " " ++ (end_text u.end ++ (codes " " ++ (decimal u.held ++ codes "\n"))))))

-- the number of open uploads, and the line of each
abbrev pub uploads_text : List UploadStatus → List ℕ
uploads_text uploads = numbered (codes "uploads ") (length uploads) ++ flat_map open_upload_line uploads

-- a tenant's number, its use, its reservation and its limit, in a line
abbrev pub tenant_line : ℕ → Usage → List ℕ
tenant_line number u = decimal number ++ (codes " " ++ (decimal u.used ++ (codes " " ++ (decimal u.reserved ++ (codes " " ++ (decimal u.limit ++ codes "\n"))))))

-- the lines of tenants, the first of which has this number
abbrev pub tenant_lines : ℕ → List Usage → List ℕ
tenant_lines number [] = []
tenant_lines number (u ∷ usages) = tenant_line number u ++ tenant_lines (number + 1) usages

-- the number of tenants, and the line of each
abbrev pub tenants_text : List Usage → List ℕ
tenants_text usages = numbered (codes "tenants ") (length usages) ++ tenant_lines 0 usages

abbrev pub totals_line : Totals → List ℕ
totals_line t = totals_text t ++ codes "\n"

abbrev pub counts_front : Counts → List ℕ
counts_front c = codes "entries " ++ (decimal c.entries ++ (codes " tenants " ++ (decimal c.tenants ++ codes " ")))

abbrev pub counts_line : Counts → List ℕ
counts_line c = counts_front c ++ totals_line c.totals

abbrev pub reply_text : Reply → List ℕ
reply_text (replies.Tenant number) = numbered (codes "tenant ") number
reply_text (replies.Upload number plan) = numbered (codes "upload ") number
reply_text (replies.Held h) = held_text h.held h.missing
reply_text (replies.Sealed s) = sealed_text s
reply_text replies.Done = codes "ok\n"
reply_text (replies.Object bytes) = object_text bytes
reply_text (replies.Usage u) = usage_text u
reply_text (replies.List objects) = list_text objects
reply_text (replies.Length len) = numbered (codes "has ") len
reply_text (replies.Uploads uploads) = uploads_text uploads
reply_text (replies.Objects page) = page_text page.next page.objects
reply_text (replies.Tenants usages) = tenants_text usages
reply_text (replies.Totals t) = totals_line t
reply_text (replies.Counts c) = counts_line c
reply_text (replies.Redo r) = redo_text r

abbrev pub answer_text : Result Reply Refusal → List ℕ
answer_text (Ok reply) = reply_text reply
answer_text (Err refusal) = refused_text (refusal_text refusal)
