-- What is opened to compute texts that are worked by hand.
use Rattle.std.specs.Fmt.{digits}
use Rattle.std.specs.Prelude.{⊤}
use Rattle.flow_measure.specs.Columns.{width_of}
use Rattle.flow_page.specs.Numbers.{after_row, pair_cells}
use Rattle.flow_page.specs.Often.{above_of}
use Rattle.flow_page.specs.Peaks.{places_text}
use Rattle.flow_page.specs.Times.{epoch_text, in_unit, span_text, thousandths_text, time_number, time_text}
use Rattle.flow_page.specs.Timings.{drift_tenths, ppm_text, rate_of, steps_seen, wanted_text}
use Rattle.flow_page.specs.Words.{broken_text, counted, later_text, over_text, troff_words, worst_text}
use Rattle.flow_page.specs.chart.Grid.{shown}
use Rattle.flow_page.specs.chart.Marks.{tenths_text}

-- decimal numerals, counted things, places, and words of a pass or a fail
unfoldable pub numerals : ⊤
unfolding digits counted broken_text over_text troff_words worst_text later_text places_text above_of after_row pair_cells
numerals = tt

-- times
unfoldable pub times : ⊤
unfolding epoch_text in_unit span_text time_number time_text shown
times = tt

-- rates and drifts
unfoldable pub rates : ⊤
unfolding tenths_text thousandths_text drift_tenths ppm_text rate_of steps_seen wanted_text width_of
rates = tt
