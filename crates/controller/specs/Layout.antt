-- Where the parts of a controller's lent memory stand. Assumes nothing: these are definitions.
use Rattle.std.specs.Prelude.{ℕ, ◌+◌}
use Rattle.retain.specs.Device.{cell_count}

-- how many variables there are; their values come first
abbrev pub variables : ℕ
variables = 64

-- then a mark for each point, 1 where it is forced
abbrev pub marks_from : ℕ
marks_from = 64

-- and the numbers that points are forced to
abbrev pub forces_from : ℕ
forces_from = 128

-- 1 where the controller is on
abbrev pub on_cell : ℕ
on_cell = 192

-- 1 where the fault lamp is lit
abbrev pub lamp_cell : ℕ
lamp_cell = 193

-- and last the device
abbrev pub device_from : ℕ
device_from = 194

-- how long the memory for so many kept variables is
abbrev pub memory_length : ℕ → ℕ
memory_length kept = device_from + cell_count kept
