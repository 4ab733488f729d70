-- `update_writing::write_host` meets its contract: the trailing octets, by the width. Assumes nothing.
use mathlib.Core.Path.{◌≡◌}
use native.Mathlib.Omega.{arith}
use lib.ListN.{length-set}
use Rattle.octets.proofs.Storing.{written_one}
use Rattle.nets.specs.Classes.{first_octet}
use Rattle.update_writing.proofs.Claims.{host_octets_lem, width_fits}
use Rattle.update_writing.proofs.Stores.{host_one, host_two, host_three, host_four, stored_two, stored_three}
use Rattle.update_writing.proofs.write_host.Goals as goal

pub bounds-out-at : goal.bounds-out-at
bounds-out-at c = omega (arith, host_octets_lem c.args.net c.args.gateway, c.width_of.ensures, c.requires, c.in-1.is)

pub bounds-out-at-in-1 : goal.bounds-out-at-in-1
bounds-out-at-in-1 c = simp length-set (omega (arith, host_octets_lem c.args.net c.args.gateway, c.width_of.ensures, c.requires, c.in-1.is))

pub bounds-out-at-in-1-2 : goal.bounds-out-at-in-1-2
bounds-out-at-in-1-2 c = simp length-set (omega (arith, host_octets_lem c.args.net c.args.gateway, c.width_of.ensures, c.requires, c.in-1.is))

pub returns-in-1 : goal.returns-in-1
returns-in-1 c = rw (host_three _ _ c.width_of.ensures c.args.gateway c.in-1.is, c.to_be_bytes.ensures) (stored_three _ _ _ _ _)

pub bounds-out-at-in-2 : goal.bounds-out-at-in-2
bounds-out-at-in-2 c = omega (arith, host_octets_lem c.args.net c.args.gateway, c.width_of.ensures, c.requires, c.in-2.is)

pub bounds-out-at-in-2-2 : goal.bounds-out-at-in-2-2
bounds-out-at-in-2-2 c = simp length-set (omega (arith, host_octets_lem c.args.net c.args.gateway, c.width_of.ensures, c.requires, c.in-2.is))

pub returns-in-2 : goal.returns-in-2
returns-in-2 c = rw (host_two _ _ c.width_of.ensures c.args.gateway c.in-2.is, c.to_be_bytes.ensures) (stored_two _ _ _ _)

pub bounds-out-at-in-3 : goal.bounds-out-at-in-3
bounds-out-at-in-3 c = omega (arith, host_octets_lem c.args.net c.args.gateway, c.width_of.ensures, c.requires, c.in-3.is)

pub returns-in-3 : goal.returns-in-3
returns-in-3 c = rw (host_one _ _ c.width_of.ensures c.args.gateway c.in-3.is, c.to_be_bytes.ensures) (written_one _ _ _)

pub put32-requires : goal.put32-requires
put32-requires c = omega (arith, host_octets_lem c.args.net c.args.gateway, c.width_of.ensures, c.requires, width_fits c.width_of.result (first_octet c.args.net) c.width_of.ensures)

pub returns-in_default : goal.returns-in_default
returns-in_default c =
    let none : c.width_of.result ≡ 0 = omega (arith, width_fits c.width_of.result (first_octet c.args.net) c.width_of.ensures) in
    rw (host_four _ _ c.width_of.ensures c.args.gateway none) (record { list = c.put32.ensures; after = omega arith })
