-- What a read from the front of a list of bytes gives, and what it leaves.
use Rattle.std.proofs.Common.{◌≡◌, ℕ, ◌+◌, ◌<◌, ◌≤◌, List, [], ◌++◌, length, take, drop, sym, ◌∙◌, ap, arith}
use Rattle.std.proofs.lemmas.List.{length-append, length-drop, length-take-le, take_at, take-append-drop, drop-drop, drop_all}
use Rattle.adsc_io.specs.Memory.{moved}

-- The bytes left are those that were copied to the front of the buffer and then those behind, and where none was copied
-- into a buffer with room, none is left.
pub bytes_read : (bytes left given old new : List ℕ) (at piece count : ℕ)
    → left ≡ drop at bytes → given ≡ drop at bytes → 0 < piece
    → count ≡ moved piece (length old) (length given) → new ≡ take count given ++ drop count old
    → (left ≡ take count new ++ drop (at + count) bytes) × (count ≡ 0 → 0 < length new → drop (at + count) bytes ≡ [])
bytes_read bytes left given old new at piece count is_left is_given some is_count is_new = (
  is_left ∙ sym (take-append-drop count (drop at bytes)) ∙ ap (λ back. take count (drop at bytes) ++ back) (drop-drop count at bytes)
      ∙ ap (λ front. front ++ drop (at + count) bytes) (sym front),
  λ none room. drop_all (at + count) bytes (omega (arith, ap length is_given, length-drop at bytes, ap length is_new, length_new, length-drop count old, length-take-le count given fits, none, is_count, some, room)),
)
  where
    length_new : length (take count given ++ drop count old) ≡ length (take count given) + length (drop count old)
    length_new = length-append (take count given) (drop count old)

    fits : count ≤ length given
    fits = omega arith

    front : take count new ≡ take count (drop at bytes)
    front = ap (take count) is_new ∙ take_at (take count given) (drop count old) count (length-take-le count given fits) ∙ ap (take count) is_given
