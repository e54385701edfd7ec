-- What is opened to compute texts that are worked by hand.
use Rattle.std.specs.Fmt.{digits}
use Rattle.std.specs.Char.{encode_utf8}
use Rattle.std.specs.Prelude.{⊤}
use Rattle.std.specs.Str.{chars}
use Rattle.flow_page.specs.chart.Axes.{low_at, round_up, step_of, steps_at}
use Rattle.flow_page.specs.chart.Bars.{bar_label, bar_piece, bar_x, has_name, label_step, limit_line, limit_number, share_of}
use Rattle.flow_page.specs.chart.Lines.{free_of, name_piece, stroke_piece}
use Rattle.flow_page.specs.chart.Shades.{behind_unit, shade_left, shade_name, shade_named, shade_right}
use Rattle.flow_page.specs.chart.Marks.{above, base_of, below, beside, bottom_of, edge, mark, name_x, place, right_of, tenths_text, x_of, y_of}

-- decimal numerals, axes, characters, and texts of lines
unfoldable pub numerals : ⊤
unfolding digits low_at round_up step_of steps_at chars encode_utf8 name_piece stroke_piece tenths_text bar_label bar_piece limit_line limit_number shade_name
numerals = tt

-- where marks stand
unfoldable pub places : ⊤
unfolding above free_of bar_x label_step share_of base_of below beside bottom_of edge mark name_x place right_of x_of y_of
places = tt

-- where names of bars and of what is shaded stand
unfoldable pub names : ⊤
unfolding has_name behind_unit shade_left shade_named shade_right
names = tt
