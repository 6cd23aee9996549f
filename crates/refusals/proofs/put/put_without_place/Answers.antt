use Rattle.std.proofs.Common.{sym}
use Rattle.refusals.specs.Table.{refusal_text}
use Rattle.refusals.proofs.put.put_without_place.Goals as goal

pub returns-in-ReadFault : goal.returns-in-ReadFault
unfolding refusal_text
returns-in-ReadFault g c = rw c.in-ReadFault.is c.put_line-in-ReadFault.ensures

pub returns-in-WriteFault : goal.returns-in-WriteFault
unfolding refusal_text
returns-in-WriteFault g c = rw c.in-WriteFault.is c.put_line-in-WriteFault.ensures

pub returns-in-Missing : goal.returns-in-Missing
unfolding refusal_text
returns-in-Missing g c = rw (c.in-Missing.is, sym c.as_slice.ensures) c.put_line-in-Missing.ensures

pub returns-in-FileFault : goal.returns-in-FileFault
unfolding refusal_text
returns-in-FileFault g c = rw (c.in-FileFault.is, sym c.as_slice-in-FileFault.ensures) c.put_line-in-FileFault.ensures

pub returns-in-TooLong : goal.returns-in-TooLong
unfolding refusal_text
returns-in-TooLong g c = rw (c.in-TooLong.is, sym c.as_slice-in-TooLong.ensures) c.put_line-in-TooLong.ensures

pub returns-in-Trap : goal.returns-in-Trap
unfolding refusal_text
returns-in-Trap g c = rw (c.in-Trap.is, sym c.trap_name.ensures, sym c.hexadecimal.ensures) c.put_line-in-Trap.ensures
