-- A line of the sheet: a call of the C host, all that it is lent, and what 02 demands of it.
use Rattle.std.specs.Prelude.{ℕ, List, [], ◌++◌, take, drop}
use Rattle.neighbour.specs.declared.Settings.{Settings}
use Rattle.model.specs.Model.{Call}
use Rattle.host_rules.specs.Calls.{number_of, result_of, block_after, table_after, buffer_after, fresh_number, fresh_block, fresh_result}
use Rattle.host_sheet.specs.Given.{sevens}

pub data Line : Type 0 where
  -- fresh: settings and block; the number, and the block after it
  fresh : Settings → List ℕ → ℕ → List ℕ → Line
  -- add or remove, to which the block alone is lent; the number, and the block after it
  alone : Call → List ℕ → ℕ → List ℕ → Line
  -- another call: block and table; the number, which is returned alone
  refused : Call → List ℕ → List ℕ → ℕ → Line
  -- the same call with all that it leaves: block and table; the number, what is returned, the block after it, the
  -- octets of the reply or the listing. The buffer is all 7.
  lent : Call → List ℕ → List ℕ → ℕ → ℕ → List ℕ → List ℕ → Line
  -- the same with all octets of the table after it
  whole : Call → List ℕ → List ℕ → ℕ → List ℕ → List ℕ → List ℕ → Line

-- refused without a reply: what was lent stays
unfoldable pub keeps : Call → List ℕ → List ℕ → ℕ → Line
keeps call block table number = lent call block table number number block []

-- what is looked at after a call
pub record Left : Type 0 where
  pub number : ℕ
  pub returned : ℕ
  pub block : List ℕ
  pub table : List ℕ
  pub buffer : List ℕ

-- of a table, the octets of two rows of slot 2
unfoldable pub two_rows : List ℕ → List ℕ
two_rows table = take 24 (drop 3072 table)

-- of a buffer, the first 200 octets: what a call writes of the sheet's, and what it leaves behind that
unfoldable pub front : List ℕ → List ℕ
front buffer = take 200 buffer

-- what the definitions give
unfoldable pub computed : Line → Left
computed (fresh g block number after) =
    record { number = fresh_number g block; returned = fresh_result g block; block = fresh_block g block; table = []; buffer = [] }
computed (alone call block number after) =
    record {
      number = number_of call block [];
      returned = result_of call block [];
      block = block_after call block [];
      table = [];
      buffer = [];
    }
computed (refused call block table number) =
    record { number = number_of call block table; returned = result_of call block table; block = []; table = []; buffer = [] }
computed (lent call block table number returned after reply) =
    record {
      number = number_of call block table;
      returned = result_of call block table;
      block = block_after call block table;
      table = two_rows (table_after call block table);
      buffer = front (buffer_after call block table);
    }
computed (whole call block table returned after tableThen reply) =
    record {
      number = number_of call block table;
      returned = result_of call block table;
      block = block_after call block table;
      table = table_after call block table;
      buffer = front (buffer_after call block table);
    }

-- the octets of a reply, and 7s behind them
unfoldable pub replied : List ℕ → List ℕ
replied reply = front (reply ++ sevens 200)

-- what the line says; where nothing is returned but the number, that is the number itself
unfoldable pub written : Line → Left
written (fresh g block number after) =
    record { number = number; returned = number; block = after; table = []; buffer = [] }
written (alone call block number after) =
    record { number = number; returned = number; block = after; table = []; buffer = [] }
written (refused call block table number) =
    record { number = number; returned = number; block = []; table = []; buffer = [] }
written (lent call block table number returned after reply) =
    record { number = number; returned = returned; block = after; table = two_rows table; buffer = replied reply }
written (whole call block table returned after tableThen reply) =
    record { number = 0; returned = returned; block = after; table = tableThen; buffer = replied reply }
