-- What the stores in lent memory hold.
use Rattle.stores.specs.declared.memory.PlainStore.{PlainStore}
use Rattle.stores.specs.declared.memory.GapStore.{GapStore}
use Rattle.stores.specs.Memory.{plain, gap}
use Rattle.stores.specs.Stores.{StoreMeaning}

-- a plain store, by its fields
abbrev pub plain_held : {K : Type 0} → PlainStore K → StoreMeaning
plain_held s = plain s.lines s.records.now s.count

-- a gap store, by its fields
abbrev pub gap_held : {K : Type 0} → GapStore K → StoreMeaning
gap_held s = gap s.lines s.records.now s.front s.back
