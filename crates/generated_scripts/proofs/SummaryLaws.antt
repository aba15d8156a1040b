-- The lines of a summary, link by link.
use Rattle.std.proofs.Common.{◌≡◌, ◌≢◌, ℕ, suc, ◌+◌, ◌==◌, ◌<◌, if◌then◌else◌, List, [], ◌∷◌, ◌++◌, All, length, drop, refl, sym, ◌∙◌, ap, subst, arith, add-one, append_assoc, append-nil}
use Rattle.std.specs.List.{count_by}
use Rattle.std.proofs.Math.Seq.{drop-cons, drop-length}
use Rattle.std.proofs.lemmas.Bool.{ne_eqb}
use Rattle.std.proofs.lemmas.List.Elements.{All-head, All-tail}
use Rattle.std.proofs.lemmas.List.Sums.{sum_by-cons}
use Rattle.adsc_io.specs.Lines.{IsUnbroken, ended_lines, newline, script_lines}
use Rattle.adsc_io.proofs.LinesLaws.{script_lines-unbroken}
use Rattle.aircraft_core.specs.Downlinks.{AreDownlinks}
use Rattle.aircraft_core.specs.Setting.{Setting, address_of}
use Rattle.aircraft_core.specs.declared.entry.Entry.{Entry}
use Rattle.generated_scripts.specs.Summaries.{AreLinkLines, link_line}

-- ---- lines

abbrev newlines : List ℕ → ℕ
newlines bytes = count_by (λ byte. byte == 10) bytes

one_byte : (byte : ℕ) (bytes : List ℕ) → newlines (byte ∷ bytes) ≡ (if byte == 10 then 1 else 0) + newlines bytes
one_byte byte bytes = sum_by-cons (λ b. if b == 10 then 1 else 0) byte bytes

other_byte : (byte : ℕ) (bytes : List ℕ) → byte ≢ 10 → newlines (byte ∷ bytes) ≡ newlines bytes
other_byte byte bytes other =
    one_byte byte bytes ∙ ap (λ is. (if is then 1 else 0) + newlines bytes) (ne_eqb byte 10 other) ∙ omega arith

one_line : (line rest : List ℕ) → IsUnbroken line → newlines (line ++ newline ∷ rest) ≡ suc (newlines rest)
one_line [] rest whole = one_byte newline rest ∙ omega arith
one_line (byte ∷ line) rest whole =
    other_byte byte (line ++ newline ∷ rest) (All-head (λ b. b ≢ 10) byte line whole) ∙ one_line line rest (All-tail (λ b. b ≢ 10) byte line whole)

newlines_of : (lines : List (List ℕ)) → All IsUnbroken lines → newlines (ended_lines lines) ≡ length lines
newlines_of [] all = refl
newlines_of (line ∷ lines) all =
    one_line line (ended_lines lines) (All-head IsUnbroken line lines all) ∙ ap suc (newlines_of lines (All-tail IsUnbroken line lines all))

-- Bytes that are whole lines have as many lines as newlines.
pub counted_lines : (bytes : List ℕ) → bytes ≡ ended_lines (script_lines bytes) → newlines bytes ≡ length (script_lines bytes)
counted_lines bytes whole = ap newlines whole ∙ newlines_of (script_lines bytes) (script_lines-unbroken bytes)

-- ---- links

-- A text so far goes on with lines of the other links, and then it is a text before with lines of all links.
abbrev pub Continues : (List ℕ → Type 0) → (List ℕ → Type 0) → List ℕ → List ℕ → Type 0
Continues More All before now = (behind : List ℕ) → More behind → (bytes : List ℕ) × All bytes × (now ++ behind ≡ before ++ bytes)

-- One link more.
pub link_more : (setting : Setting) (journal : List Entry) (link : ℕ) (All : List ℕ → Type 0) (texts : List (List ℕ)) (before now next : List ℕ)
    → link < length setting.addresses → Continues (AreLinkLines setting journal link (drop link setting.addresses)) All before now
    → AreDownlinks setting journal link texts → next ≡ now ++ link_line (address_of setting link) texts
    → Continues (AreLinkLines setting journal (link + 1) (drop (link + 1) setting.addresses)) All before next
link_more setting journal link All texts before now next below so_far downlinks appended behind others =
    let more = subst (λ k. AreLinkLines setting journal (link + 1) (drop k setting.addresses) behind) (add-one link) others in
    let line = link_line (address_of setting link) texts in
    let whole = so_far (line ++ behind)
    (subst (λ addresses. AreLinkLines setting journal link addresses (line ++ behind)) (sym (drop-cons setting.addresses link [] below)) (texts, behind, downlinks, more, refl)) in
    (whole.0, whole.1, ap (λ t. t ++ behind) appended ∙ append_assoc now line behind ∙ whole.2)

-- No link more.
pub links_done : (setting : Setting) (journal : List Entry) (link : ℕ) (All : List ℕ → Type 0) (before now : List ℕ) → link ≡ length setting.addresses
    → Continues (AreLinkLines setting journal link (drop link setting.addresses)) All before now → (bytes : List ℕ) × All bytes × (now ≡ before ++ bytes)
links_done setting journal link All before now end so_far =
    let none = ap (λ k. drop k setting.addresses) end ∙ drop-length setting.addresses in
    let whole = so_far [] (subst (λ addresses. AreLinkLines setting journal link addresses []) (sym none) refl) in
    (whole.0, whole.1, sym (append-nil now) ∙ whole.2)
