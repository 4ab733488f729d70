-- `text_values::read_hex` meets its contract. The loop keeps: the text left is hex, and its octets are what is left to write. Assumes nothing.
use Rattle.std.proofs.Common.{◌*◌, ◌/◌, ◌≤◌, ℕ, List, length, drop, arith}
use lib.ListN.{length-drop}
use Rattle.octets.proofs.Storing.{done}
use Rattle.text_values.proofs.Laws.{pair_of, digit_there, digit_read, octet_room, octet_turn, octets_end, octets_over}
use Rattle.text_values.proofs.read_hex.Goals as goal

pub unwrap-high-requires : goal.unwrap-high-requires
unwrap-high-requires c =
    let l = c.loop-i in
    digit_there _ (pair_of c.args.text.now l.i c.loop-i-test.true l.invariant.good).high c.digit_value.ensures

pub unwrap-low-requires : goal.unwrap-low-requires
unwrap-low-requires c =
    let l = c.loop-i in
    digit_there _ (pair_of c.args.text.now l.i c.loop-i-test.true l.invariant.good).low c.digit_value-in-loop-i.ensures

pub bounds-out-i : goal.bounds-out-i
bounds-out-i c =
    let l = c.loop-i in
    octet_room (pair_of c.args.text.now l.i c.loop-i-test.true l.invariant.good) l.invariant.left

pub loop-i-preserved : goal.loop-i-preserved
loop-i-preserved c =
    let l = c.loop-i in
    let p = pair_of c.args.text.now l.i c.loop-i-test.true l.invariant.good in
    record {
      good = p.rest;
      left = octet_turn p l.invariant.left (digit_read _ p.high c.digit_value.ensures c.unwrap-high.ensures) (digit_read _ p.low c.digit_value-in-loop-i.ensures c.unwrap-low.ensures);
    }

-- fewer than two digits are left
none_left : (text : List ℕ) (i : ℕ) → length text / 2 ≤ i → length (drop (2 * i) text) ≤ 1
none_left text i h = simp length-drop (omega arith)

pub returns-clause-value : goal.returns-clause-value
returns-clause-value c =
    let l = c.loop-i in
    omega (arith, (octets_over c.requires.1 (done l.invariant.left (octets_end _ (none_left c.args.text.now l.i c.loop-i-test.false)))).0)

pub returns-clause-out_after : goal.returns-clause-out_after
returns-clause-out_after c =
    let l = c.loop-i in
    (octets_over c.requires.1 (done l.invariant.left (octets_end _ (none_left c.args.text.now l.i c.loop-i-test.false)))).1
