-- What a ruling sends can be sent, and the rows that it stores are there. Assumes nothing.
use Prim.Native.Nat.{ℕ}
use borrow.Author.Tests.{eq-eqb, le-leb}
use mathlib.Core.Path.{◌≡◌, refl, ap}
use mathlib.Core.Bool.{true, false≢true}
use mathlib.Core.List.{List}
use lib.ListN.{length}
use Rattle.checks.proofs.Laws.{and_both}
use Rattle.nets.specs.Classes.{good_net}
use Rattle.message.specs.declared.Message.{Message}
use Rattle.message.specs.declared.Message.TheVariants as M
use Rattle.update_walk.specs.Body.{Walk, walked_blocks}
use Rattle.update_walk.proofs.Accepted.{accepted_is}
use Rattle.update_rows.specs.Storing.{walked_rows}
use Rattle.update_writing.specs.Writable.{writable_numbers}
use Rattle.codec_writing.specs.Room.{rows_fit, room_for}
use Rattle.neighbour.specs.declared.Settings.{Settings}
use Rattle.neighbour_machine.specs.declared.Reply.{Reply}
use Rattle.neighbour_machine.specs.Laws.{short, may_send}
use Rattle.neighbour_machine.proofs.Sends.{send_elim}
use Rattle.gateway_rules.specs.Ruling.{Change, keep, clear, replace, Ruling, effect_of, verdict_of}
use Rattle.gateway_rules.proofs.Rulings.{Backed}
use Rattle.gateway_carry.specs.Asked.{brief, sendable, takes, change_of, ruling_of}
use Rattle.gateway_carry.proofs.Sending.{brief_fits}

-- a short message is a brief one
short_brief : (m : Message) → short m ≡ true → brief m ≡ true
unfolding brief room_for
short_brief (M.Request a q s hello poll) e = refl
short_brief (M.Confirm a q s hello poll) e = refl
short_brief (M.Refuse a q s) e = refl
short_brief (M.Cease a q s) e = refl
short_brief (M.CeaseAck a q s) e = refl
short_brief (M.Hello a q s) e = refl
short_brief (M.IHeardYou a q s) e = refl
short_brief (M.Poll a q s net) e = refl
short_brief (M.Update a q s net) e = absurd (false≢true e)
short_brief (M.Error a q s reason x y z) e = refl

-- what a step may send can be sent, with a home list that an Update on the common net can carry
pub ready : (g : Settings) (home : List ℕ) → good_net g.net ≡ true → writable_numbers g.net home ≡ true
    → (reply : Reply) → may_send g reply ≡ true → sendable reply home ≡ true
unfolding sendable rows_fit
ready g home good fits =
    send_elim g (λ r. sendable r home ≡ true) refl
    (λ m e. brief_fits m home (short_brief m e))
    (λ q. and_both (good_net g.net) (writable_numbers g.net home) good fits)
    (λ m next e f. and_both (brief m) (brief next) (short_brief m e) (short_brief next f))

-- ---- the rows

module _ (net : ℕ) (o : List ℕ) where
  pub backed_takes : (change : Change) → Backed 128 net o change → takes (effect_of change) (walked_blocks net o) ≡ true
  unfolding Backed effect_of takes
  backed_takes keep b = refl
  backed_takes clear b = refl
  backed_takes (replace rows) b =
      let a = accepted_is 128 net o rows b in
      rw (a.is, eq-eqb (length rows) (length rows) refl, le-leb (length rows) 128 a.fits)

  change_back : (change : Change) → Backed 128 net o change → change_of (effect_of change) (walked_rows (walked_blocks net o)) ≡ change
  unfolding Backed effect_of change_of walked_rows
  change_back keep b = refl
  change_back clear b = refl
  change_back (replace rows) b = ap (λ (w : Walk). replace (walked_rows w)) (accepted_is 128 net o rows b).is

  -- the verdict stands for the ruling
  pub ruling_back : (x : Ruling) → Backed 128 net o x.change → ruling_of (verdict_of x) (walked_rows (walked_blocks net o)) ≡ x
  unfolding ruling_of verdict_of
  ruling_back x b = λ k. record { answer = x.answer; reply = x.reply; neighbour = x.neighbour; change = change_back x.change b k }
