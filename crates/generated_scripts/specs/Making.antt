-- How far the making of a script has come, in the code.
use Rattle.generated_scripts.specs.Generator.{Making}
use Rattle.generated_scripts.specs.declared.generator.Generator.{Generator}

-- How far a generator has come.
abbrev pub making : Generator → Making
making generator = record { state = generator.state; clock = generator.clock }
