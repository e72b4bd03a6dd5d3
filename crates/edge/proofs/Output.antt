-- What went out of a text, step by step.
use Rattle.std.proofs.Common.{◌∙◌, ℕ, Result, Ok, Err, OnErr, List, [], ◌++◌, Option, append-nil, append_assoc, ap, arith, drop, length-append, refl, sym, take, take-append-drop}
use Rattle.std.specs.Io.KnownBytes.{Appends, Keeps}
use Rattle.std.proofs.KnownBytes.{Appends-kept, Appends-nil, Appends-trans}
use Rattle.edge.specs.Output.{AllBut, IsTruncated, WroteSome}

pub AllBut-none : (a : Option (List ℕ)) (text : List ℕ) → AllBut a a text text
AllBut-none a text = record { front = []; is = refl; went = Appends-nil a }

pub AllBut-some : (old mid new : Option (List ℕ)) (text rest : List ℕ) (n : ℕ) → AllBut old mid text rest → Appends mid new (take n rest) → AllBut old new text (drop n rest)
AllBut-some old mid new text rest n h more = record {
  front = h.front ++ take n rest;
  is = h.is ∙ ap (λ z. h.front ++ z) (sym (take-append-drop n rest)) ∙ sym (append_assoc h.front (take n rest) (drop n rest));
  went = Appends-trans old mid new h.front (take n rest) h.went more;
}

pub AllBut-kept : (old mid new : Option (List ℕ)) (text rest : List ℕ) → AllBut old mid text rest → Keeps mid new → AllBut old new text rest
AllBut-kept old mid new text rest h same = record { front = h.front; is = h.is; went = Appends-kept old mid new h.front h.went same }

-- a text was cut off in a part of it, before which all went out
pub split_between : (old mid new : Option (List ℕ)) (done part following : List ℕ) → Appends old mid done → IsTruncated mid new part → IsTruncated old new (done ++ (part ++ following))
split_between old mid new done part following was h = record {
  rest = h.rest ++ following;
  some = omega (arith, length-append h.rest following, h.some);
  front = record {
    front = done ++ h.front.front;
    is = ap (λ z. done ++ (z ++ following)) h.front.is ∙ ap (λ z. done ++ z) (append_assoc h.front.front h.rest following) ∙ sym (append_assoc done h.front.front (h.rest ++ following));
    went = Appends-trans old mid new done h.front.front was h.front.went;
  };
}

-- ---- some of a text was written

pub cut_some : (old new : Option (List ℕ)) (text : List ℕ) → IsTruncated old new text → WroteSome old new text
cut_some old new text cut = record { rest = cut.rest; front = cut.front }

pub all_written : (old new : Option (List ℕ)) (text : List ℕ) → Appends old new text → WroteSome old new text
all_written old new text went = record { rest = []; front = record { front = text; is = sym (append-nil text); went = went } }

pub written_kept : (old mid new : Option (List ℕ)) (text : List ℕ) → Appends old mid text → Keeps mid new → WroteSome old new text
written_kept old mid new text went same = all_written old new text (Appends-kept old mid new text went same)

-- some of a part was written, before which all was
pub some_between : (old mid new : Option (List ℕ)) (done part following : List ℕ) → Appends old mid done → WroteSome mid new part → WroteSome old new (done ++ (part ++ following))
some_between old mid new done part following was h = record {
  rest = h.rest ++ following;
  front = record {
    front = done ++ h.front.front;
    is = ap (λ z. done ++ (z ++ following)) h.front.is ∙ ap (λ z. done ++ z) (append_assoc h.front.front h.rest following) ∙ sym (append_assoc done h.front.front (h.rest ++ following));
    went = Appends-trans old mid new done h.front.front was h.front.went;
  };
}

pub some_first : (old new : Option (List ℕ)) (part following : List ℕ) → WroteSome old new part → WroteSome old new (part ++ following)
some_first old new part following h = some_between old old new [] part following (Appends-nil old) h

pub some_after : (old mid new : Option (List ℕ)) (done part : List ℕ) → Appends old mid done → WroteSome mid new part → WroteSome old new (done ++ part)
some_after old mid new done part was h = rw (ap (λ z. WroteSome old new (done ++ z)) (sym (append-nil part))) (some_between old mid new done part [] was h)

-- a text of which some was written: this holds whatever the error
pub after_error : {A E Q : Type 0} (r : Result A E) → Q → OnErr r Q
after_error (Ok a) q = tt
after_error (Err e) q = q
