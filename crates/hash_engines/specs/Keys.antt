-- Keys in files.
use Rattle.std.specs.Prelude.{◌==◌, ℕ, List, Option, Some, None, Result, Ok, Err, length, take, slice_index, if◌then◌else◌}
use Rattle.edge.specs.Lines.{newline}
use Rattle.hex.specs.Hex.{decode_sized}
use Rattle.hex.specs.declared.error.FromHexError.{FromHexError}

-- the digits, without the newline that may follow 64 of them
abbrev pub without_feed : List ℕ → List ℕ
without_feed text = if length text == 65 then (if slice_index text 64 == newline then take 64 text else text) else text

abbrev pub decoded_key : Result (List ℕ) FromHexError → Option (List ℕ)
decoded_key (Ok key) = Some key
decoded_key (Err fault) = None

-- the key in a text: 32 raw bytes, or 64 digits
abbrev pub key_at : List ℕ → Option (List ℕ)
key_at text = if length text == 32 then Some text else decoded_key (decode_sized (without_feed text) 32)
