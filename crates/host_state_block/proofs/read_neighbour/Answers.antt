use lib.ListN.{get_or}
use Rattle.host_state_block.specs.Layout.{numbers_at}
use Rattle.host_state_block.specs.Block.{record_of, slot_of, slot_in}
use Rattle.host_state_block.proofs.read_neighbour.Goals as goal

pub returns : goal.returns
unfolding slot_in slot_of record_of numbers_at
returns c = λ i.
    record {
      s = c.from_be_bytes.ensures i;
      r = c.from_be_bytes-2.ensures i;
      period1 = c.from_be_bytes-3.ensures i;
      period2 = c.from_be_bytes-4.ensures i;
      t1 = c.from_be_bytes-5.ensures i;
      t2 = c.from_be_bytes-6.ensures i;
      t3 = c.from_be_bytes-7.ensures i;
      phase = c.phase_at.ensures i;
      mode = c.mode_at.ensures i;
      register = get_or c.args.part.now 24 0;
      heard = get_or c.args.part.now 25 0;
      cause = get_or c.args.part.now 26 0;
      sincehello = get_or c.args.part.now 27 0;
      sincepoll = get_or c.args.part.now 28 0;
    }
