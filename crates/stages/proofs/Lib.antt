mod Visible
