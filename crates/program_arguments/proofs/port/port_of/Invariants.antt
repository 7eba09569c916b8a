-- The value of the digits behind those that were read is that of all.
use Rattle.std.proofs.Common.{◌≡◌, ◌≤◌, drop}
use Rattle.program_arguments.specs.Port.{port_in, port_of}
use Rattle.program_arguments.proofs.port.port_of.Given as goal

abbrev pub invariant-loop-digit : goal.invariant-loop-digit
invariant-loop-digit l = record {
  small : l.value ≤ 65535;
  left : port_in l.value (drop l.digit-index l.word) ≡ port_of l.word;
}
