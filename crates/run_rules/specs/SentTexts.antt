-- The texts that carry what a centre sent, and what they do as texts from the ground. Texts follow ARINC 622, payloads and answers RTCA
-- DO-258A / EUROCAE ED-100A.
use Rattle.std.specs.Prelude.{◌≡◌, ℕ, List, [], Some}
use Rattle.acars_envelope.specs.Texts.{sealed_text}
use Rattle.acars_envelope.specs.declared.texts.Body.TheVariants.{Ads, Afn}
use Rattle.afn_logon.specs.Makings.{answer_to}
use Rattle.afn_logon.specs.Texts.{answer_text}
use Rattle.aircraft_core.specs.Setting.{Setting, address_of}
use Rattle.centre_core.specs.Sending.{message_payload}
use Rattle.ground_texts.specs.Readings.{ReadsText}
use Rattle.ground_texts.specs.declared.ground_text.GroundText.{GroundText}
use Rattle.run_rules.specs.Among.{IsAmong}
use Rattle.run_rules.specs.Happenings.{Carried, Carries, Answers, SentMessage, sent_messages}
use Rattle.run_rules.specs.Lines.{entry_with}
use Rattle.run_rules.specs.Runs.{IsScript, Run, Script, ScriptRun}
use Rattle.run_rules.specs.Stages.{enters}
use Rattle.run_rules.specs.Texts.{text_step}

-- The text that carries what the centre of a link sent to this aircraft: an envelope with one message, or with the answer to a contact.
abbrev pub sent_text : Setting → ℕ → Carried → List ℕ
sent_text setting link (Carries asked) =
    sealed_text (address_of setting link) (Ads setting.registration (record { items = message_payload asked }))
sent_text setting link (Answers contact) = sealed_text (address_of setting link) (Afn (record { items = answer_text (answer_to contact) }))

-- The text that carries it is read as a text from the ground, and as the text of a line, where no address has a role yet, it does just
-- what bringing the message does: it makes the same entry, and it isn't refused.
pub record IsTakenAsText (setting : Setting) (link : ℕ) (carried : Carried) : Type 0 where
  pub reading : GroundText
  pub reads : ReadsText (sent_text setting link carried) reading
  pub taken : (number : ℕ) → text_step setting [] number reading ≡ enters (entry_with number link carried)

-- Each message that a centre sent in a run is taken so.
abbrev pub SentMessageIsTaken : Type 0
SentMessageIsTaken = (bytes : List ℕ) (script : Script) (order : List ℕ) (run : Run) (setting : Setting) (link : ℕ) (sent : SentMessage)
    → IsScript bytes script → ScriptRun script order run → run.setting ≡ Some setting → IsAmong sent (sent_messages link run.log)
    → IsTakenAsText setting link sent.carried
