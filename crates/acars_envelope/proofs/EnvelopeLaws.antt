-- A text is that of one envelope at most, or has a first bad place.
use Rattle.std.proofs.Common.{◌≡◌, ℕ, true, List, ◌++◌, drop, Result, Ok, Err, sym, ap, ◌∙◌}
use Rattle.std.specs.Prelude.{codes, IfOk, IfErr, OnErr}
use Rattle.acars_envelope.specs.declared.refusal.EnvelopeRefusal.{EnvelopeRefusal}
use Rattle.acars_envelope.specs.declared.texts.Body.{Body}
use Rattle.acars_envelope.specs.declared.texts.Body.TheVariants.{Ads, Afn}
use Rattle.acars_envelope.specs.declared.texts.Envelope.{Envelope}
use Rattle.acars_envelope.specs.Faults.{IsFirstEnvelopeFault}
use Rattle.acars_envelope.specs.Bodies.{HasItsForms, covered_octets, is_text_character, is_well_formed, written_body}
use Rattle.acars_envelope.specs.Check.{check_of}
use Rattle.acars_envelope.specs.Texts.{IsEnvelopeText, four_digits}
use Rattle.arrayvec.specs.ArrayVec.{ArrayVec}
use Rattle.std.proofs.Common.{subst}
use Rattle.std.proofs.Math.Bool.{Bool-set}
use Rattle.std.proofs.lemmas.Bool.{and_parts, leb-true}
use Rattle.std.proofs.lemmas.List.{append_assoc}
use Rattle.std.proofs.lemmas.List.Sums.{AllPass-from_list_all}
use Rattle.acars_envelope.proofs.FaultLaws.{one_first_fault}
use Rattle.acars_envelope.proofs.CapitalDigits.{same_octets}
use Rattle.acars_envelope.proofs.PassingLaws.{address_at, behind_head}
use Rattle.acars_envelope.proofs.SealedLaws.{AfnText, ads_text, afn_text, not_both, sealed_has_no_fault}

-- an envelope's text has no first bad place
pub envelope_has_no_fault : (e : Envelope) (text : List ℕ) → IsEnvelopeText e text → (r : EnvelopeRefusal) → IsFirstEnvelopeFault text r → ⊥
envelope_has_no_fault e text is r fault = sealed_has_no_fault text e.address e.body is.address is.body e.well_formed is.spelled r fault

-- a vector is told by its elements
same_array : (v w : ArrayVec ℕ) → v.items ≡ w.items → v ≡ w
same_array v w same = ap (λ (xs : List ℕ). let made : ArrayVec ℕ = record { items = xs } in made) same

-- what is known of an AFN text, by its body
afn_pieces_of : (text : List ℕ) (c : ArrayVec ℕ) → is_well_formed (Afn c) ≡ true
    → drop 9 text ≡ written_body (Afn c) ++ four_digits (check_of (covered_octets (Afn c))) → AfnText text c.items
afn_pieces_of text c sized spelled =
    let parts = and_parts _ _ sized in
    let sizes = and_parts _ _ parts.0 in
    afn_text text c.items (AllPass-from_list_all is_text_character c.items parts.1) (leb-true _ _ sizes.0) (leb-true _ _ sizes.1) spelled

-- a text isn't for both applications
kinds_differ : (text g : List ℕ) (p c : ArrayVec ℕ) → HasItsForms (Ads g p) → is_well_formed (Ads g p) ≡ true → is_well_formed (Afn c) ≡ true
    → drop 9 text ≡ written_body (Ads g p) ++ four_digits (check_of (covered_octets (Ads g p)))
    → drop 9 text ≡ written_body (Afn c) ++ four_digits (check_of (covered_octets (Afn c))) → ⊥
kinds_differ text g p c forms sized_b sized_c spelled_b spelled_c =
    let parts = and_parts _ _ sized_b in
    let ads = ads_text text g p.items forms.0 forms.1 (leb-true _ _ parts.0) (leb-true _ _ parts.1) spelled_b in
    not_both text ads.letters (afn_pieces_of text c sized_c spelled_c).letters

-- the text from place 9 on has one body
same_body : (text : List ℕ) (b c : Body) → HasItsForms b → HasItsForms c → is_well_formed b ≡ true → is_well_formed c ≡ true
    → drop 9 text ≡ written_body b ++ four_digits (check_of (covered_octets b))
    → drop 9 text ≡ written_body c ++ four_digits (check_of (covered_octets c)) → b ≡ c
same_body text (Ads g p) (Ads h q) forms_b forms_c sized_b sized_c spelled_b spelled_c =
    let parts_b = and_parts _ _ sized_b in
    let parts_c = and_parts _ _ sized_c in
    let is_b = ads_text text g p.items forms_b.0 forms_b.1 (leb-true _ _ parts_b.0) (leb-true _ _ parts_b.1) spelled_b in
    let is_c = ads_text text h q.items forms_c.0 forms_c.1 (leb-true _ _ parts_c.0) (leb-true _ _ parts_c.1) spelled_c in
    let registration : g ≡ h = sym is_b.seven ∙ is_c.seven in
    let payload : p ≡ q = same_array p q (same_octets p.items q.items forms_b.1 forms_c.1 (sym is_b.digits ∙ is_c.digits)) in
    ap (λ (x : List ℕ). Ads x p) registration ∙ ap (λ (x : ArrayVec ℕ). Ads h x) payload
same_body text (Ads g p) (Afn c) forms_b forms_c sized_b sized_c spelled_b spelled_c = absurd (kinds_differ text g p c forms_b sized_b sized_c spelled_b spelled_c)
same_body text (Afn c) (Ads g p) forms_b forms_c sized_b sized_c spelled_b spelled_c = absurd (kinds_differ text g p c forms_c sized_c sized_b spelled_c spelled_b)
same_body text (Afn c) (Afn d) forms_b forms_c sized_b sized_c spelled_b spelled_c =
    let is_b = afn_pieces_of text c sized_b spelled_b in
    let is_c = afn_pieces_of text d sized_c spelled_c in
    ap Afn (same_array c d (sym is_b.piece ∙ is_c.piece))

-- what an envelope's text has behind the dot
behind_dot : Envelope → List ℕ
behind_dot e = written_body e.body ++ four_digits (check_of (covered_octets e.body))

joined_text : (e : Envelope) (text : List ℕ) → IsEnvelopeText e text → text ≡ codes "/" ++ e.address ++ codes "." ++ behind_dot e
unfolding behind_dot
joined_text e text is =
    is.spelled ∙ append_assoc (codes "/" ++ e.address ++ codes ".") (written_body e.body) (four_digits (check_of (covered_octets e.body)))

-- an envelope of its parts
envelope_of : (address : List ℕ) (body : Body) → is_well_formed body ≡ true → Envelope
envelope_of address body sized = record { address = address; body = body; well_formed = sized }

-- envelopes with the same parts are the same
same_parts : (a b : List ℕ) (x y : Body) (p : is_well_formed x ≡ true) (q : is_well_formed y ≡ true) → a ≡ b → x ≡ y
    → envelope_of a x p ≡ envelope_of b y q
same_parts a b x y p q same_address same_body =
    let Same : Body → Type 0 = λ z. (r : is_well_formed z ≡ true) → envelope_of a x p ≡ envelope_of a z r in
    subst Same same_body (λ r. ap (envelope_of a x) (Bool-set (is_well_formed x) true p r)) q
    ∙ ap (λ (c : List ℕ). envelope_of c y q) same_address

-- two envelopes with one text are one
pub same_envelope : (e f : Envelope) (text : List ℕ) → IsEnvelopeText e text → IsEnvelopeText f text → e ≡ f
unfolding behind_dot envelope_of
same_envelope e f text is_e is_f =
    let joined_e = joined_text e text is_e in
    let joined_f = joined_text f text is_f in
    same_parts e.address f.address e.body f.body e.well_formed f.well_formed
    (sym (address_at text e.address (behind_dot e) is_e.address joined_e) ∙ address_at text f.address (behind_dot f) is_f.address joined_f)
    (same_body text e.body f.body is_e.body is_f.body e.well_formed f.well_formed
    (behind_head text e.address (behind_dot e) is_e.address joined_e) (behind_head text f.address (behind_dot f) is_f.address joined_f))

-- where a reader names the first bad place, no envelope has the text
pub none_of : (text : List ℕ) (result : Result Envelope EnvelopeRefusal) → IfErr result (λ r. IsFirstEnvelopeFault text r)
    → OnErr result ((e : Envelope) → IsEnvelopeText e text → ⊥)
none_of text (Ok found) fault = tt
none_of text (Err r) fault = λ e is. envelope_has_no_fault e text is r fault

-- where it finds an envelope, it is any that has the text
pub right_of : (text : List ℕ) (result : Result Envelope EnvelopeRefusal) → IfOk result (λ e. IsEnvelopeText e text)
    → IfErr result (λ r. IsFirstEnvelopeFault text r) → (e : Envelope) → IsEnvelopeText e text → result ≡ Ok e
right_of text (Ok found) is_found fault e is = ap Ok (same_envelope found e text is_found is)
right_of text (Err r) is_found fault e is = absurd (envelope_has_no_fault e text is r fault)

-- and where there is a first bad place, it names it
pub first_of : (text : List ℕ) (result : Result Envelope EnvelopeRefusal) → IfOk result (λ e. IsEnvelopeText e text)
    → IfErr result (λ r. IsFirstEnvelopeFault text r) → (r : EnvelopeRefusal) → IsFirstEnvelopeFault text r → result ≡ Err r
first_of text (Ok found) is_found fault r first = absurd (envelope_has_no_fault found text is_found r first)
first_of text (Err refusal) is_found fault r first = ap Err (one_first_fault text refusal r fault first)
