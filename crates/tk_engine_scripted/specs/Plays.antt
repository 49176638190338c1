-- Why the script of a unit is not played to its end.
use Rattle.tk_engine_execute.specs.declared.engines.UnitFault.{UnitFault}
use Rattle.tk_engine_execute.specs.declared.engines.UnitFault.TheVariants.{Sink, Memory, Own, Text}

-- a unit's fault that isn't the engine's own: the sink's, or that memory was refused
abbrev pub IsPlayFault : UnitFault → Type 0
IsPlayFault (Sink why) = Unit {0}
IsPlayFault Memory = Unit {0}
IsPlayFault (Own n) = ⊥
IsPlayFault (Text text) = ⊥
